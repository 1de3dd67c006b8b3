-- Laws of drawing one list of pixels after another: a bit, a turn of a loop, a row, and how many pixels are stored at most.
use Prim.Native.Nat.{ℕ, zero, suc, ◌+◌, ◌-◌, ◌<◌, ◌≤◌}
use mathlib.Core.Bool.{Bool, true, false, not, and-false}
use mathlib.Core.Path.{◌≡◌, refl, sym, ap, ◌∙◌}
use mathlib.Core.List.{List, [], ◌∷◌}
use mathlib.Core.Logic.{⊎_elim}
use native.Mathlib.Omega.{arith}
use native.Mathlib.Numerals.{add-one}
use lib.ListN.{get_or}
use lib.IntN.{ℤ, pos, negsuc, ◌+ℤ◌}
use lib.Signed.{le_z, lt_z}
use Rattle.whole.specs.Parts.{whole, abs, add}
use Rattle.definition.specs.Choice.{pick}
use Rattle.definition.specs.Units.{pixels, pixel}
use Rattle.definition.specs.Image.{Shape, Pen, below, in_field, inside, store, stores, left}
use Rattle.definition.specs.Characters.{is_set, gathered, row_pixels, cell_pixels}
use Rattle.definition.specs.declared.Pixels.{Pixels}
use Rattle.definition.specs.declared.Pixel.{Pixel}
use Rattle.definition.proofs.Exactly.{apart}
use Rattle.definition.proofs.Plain.{both_true, either_true}
use Rattle.definition.proofs.StoreLaws.{inside_append}
use Rattle.units.specs.Answers.{index_in}
use Rattle.units.proofs.AnswerLaws.{index_at, index_outside}
use Rattle.image.specs.Drawn.{drawn}
use Rattle.image.proofs.DrawnLaws.{drawn_then}
use Rattle.image.proofs.DrawnLaws.{drawn_few}
use Rattle.image.proofs.CellCounts.{row_few, cell_few}
use Rattle.std.specs.Prelude.{Option, Some, None, is_some}
use Rattle.cells.specs.Cell.{aside, bit_pixels, row_at}

-- ---- one list after another
drawn_nothing : (s : Shape) (pen : Pen) (im : List ℕ) → left 0 im ≡ drawn s pen im []
unfolding drawn inside stores
drawn_nothing s pen im = refl

module _ (s : Shape) (pen : Pen) (im : List ℕ) where
  pub drawn_none : (f : ℕ → List Pixel) → left 0 im ≡ drawn s pen im (gathered f 0)
  unfolding gathered
  drawn_none f = drawn_nothing s pen im

  -- a turn of a drawing loop
  pub drawn_turn : (f : ℕ → List Pixel) (k : ℕ) {n r : ℕ} {im' im'' : List ℕ} → left n im' ≡ drawn s pen im (gathered f k) → left r im'' ≡ drawn s pen im' (f k) → left (n + r) im'' ≡ drawn s pen im (gathered f (k + 1))
  unfolding gathered
  drawn_turn f k e d = rw (add-one k) (drawn_then s pen im (gathered f k) (f k) e d)

  -- a turn that draws nothing
  drawn_skip : (f : ℕ → List Pixel) (k : ℕ) {n : ℕ} {im' : List ℕ} → left n im' ≡ drawn s pen im (gathered f k) → left 0 im' ≡ drawn s pen im' (f k) → left n im' ≡ drawn s pen im (gathered f (k + 1))
  drawn_skip f k {n} e d =
      let z : n + 0 ≡ n = omega arith in
      rw z at (drawn_turn f k e d)

  -- ---- a turn of a row's loop, by its bit
  module _ (x y : ℤ) (row k : ℕ) {on : Bool} {n : ℕ} {im' : List ℕ} (eo : on ≡ is_set row k) (e : left n im' ≡ drawn s pen im (gathered (bit_pixels x y row) k)) where
    pub bit_lit : {r : ℕ} {im'' : List ℕ} → on ≡ true → left r im'' ≡ drawn s pen im' (pixel (x +ℤ pos k) y ∷ []) → left (n + r) im'' ≡ drawn s pen im (gathered (bit_pixels x y row) (k + 1))
    bit_lit t d =
        let one : bit_pixels x y row k ≡ pixel (x +ℤ pos k) y ∷ [] = ap (λ (b : Bool). pick b (pixel (x +ℤ pos k) y ∷ []) []) (sym eo ∙ t) in
        drawn_turn (bit_pixels x y row) k e (rw one d)

    pub bit_dark : on ≡ false → left n im' ≡ drawn s pen im (gathered (bit_pixels x y row) (k + 1))
    bit_dark t =
        let none : bit_pixels x y row k ≡ [] = ap (λ (b : Bool). pick b (pixel (x +ℤ pos k) y ∷ []) []) (sym eo ∙ t) in
        drawn_skip (bit_pixels x y row) k e (rw none (drawn_nothing s pen im'))

-- ---- how many at most
module _ (s : Shape) (pen : Pen) (im : List ℕ) {r : ℕ} {im' : List ℕ} where
  pub one_at_most : (p : Pixel) → left r im' ≡ drawn s pen im (p ∷ []) → r ≤ 1
  one_at_most p d = drawn_few s pen im (p ∷ []) d

  pub row_at_most : (x y : ℤ) (row : ℕ) → left r im' ≡ drawn s pen im (row_pixels x y row) → r ≤ 8
  row_at_most x y row d = omega (arith, drawn_few s pen im (row_pixels x y row) d, row_few x y row)

  pub cell_at_most : (corner : Pixel) (cell : List ℕ) → left r im' ≡ drawn s pen im (cell_pixels corner cell) → r ≤ 64
  cell_at_most corner cell d = omega (arith, drawn_few s pen im (cell_pixels corner cell) d, cell_few corner cell)

-- ---- what is outside
none_inside : (s : Shape) (f : ℕ → List Pixel) (n : ℕ) → ((k : ℕ) → k < n → inside s (f k) ≡ []) → inside s (gathered f n) ≡ []
unfolding inside gathered
none_inside s f zero h = refl
none_inside s f (suc n) h = rw (inside_append s (gathered f n) (f n), none_inside s f n (λ k l. h k (omega (arith, l)))) (h n (omega arith))

module _ (s : Shape) (on : Bool) (x y : ℤ) where
  hidden : in_field s (pixel x y) ≡ false → inside s (pick on (pixel x y ∷ []) []) ≡ []
  unfolding inside
  hidden e = go on
    where
      go : (t : Bool) → inside s (pick t (pixel x y ∷ []) []) ≡ []
      go true = rw e
      go false = refl

  beside : below s.height y ≡ false → inside s (pick on (pixel x y ∷ []) []) ≡ []
  unfolding in_field
  beside e = hidden (rw e (and-false (below s.width x)))

  past : below s.width x ≡ false → inside s (pick on (pixel x y ∷ []) []) ≡ []
  unfolding in_field
  past e = hidden (rw e)

index_is : (n : ℕ) (p : Pixels) {i : ℕ} → index_in n p ≡ Some i → p.0 ≡ pos i
index_is n p e =
    let w = index_at n p e in
    let b = (both_true {s = le_z (pos 0) p.0} {t = lt_z p.0 (pos n)}).0 w.0 in
    omega (whole, abs p.0, w.1)

pub missed : (n : ℕ) (p : Pixels) {g : Option ℕ} {none : Bool} {z : ℤ} → g ≡ index_in n p → is_some g ≡ not none → p ≡ pixels z → none ≡ true → below n z ≡ false
missed n p {g} {none} {z} e k h t = go g e (k ∙ ap not t)
  where
    go : (g : Option ℕ) → g ≡ index_in n p → is_some g ≡ false → below n z ≡ false
    go None f o = ap (λ (q : Pixels). below n q.0) (sym h) ∙ index_outside n p (sym f)
    go (Some i) f o = absurd (apart o)

-- ---- a bit that is in the field
below_is : (n x : ℕ) → x < n → below n (pos x) ≡ true
below_is n x h =
    let l : le_z (pos 0) (pos x) ≡ true = omega whole in
    let r : lt_z (pos x) (pos n) ≡ true = omega whole in
    rw (l, r)

module _ (s : Shape) (pen : Pen) (im : List ℕ) {x y : ℕ} {im' : List ℕ} (hx : x < s.width) (hy : y < s.height) (st : im' ≡ store s pen im x y) where
  pub one_stored : left 1 im' ≡ drawn s pen im (pixel (pos x) (pos y) ∷ [])
  unfolding drawn inside in_field stores
  one_stored = rw (below_is s.width x hx, below_is s.height y hy, st)

-- ---- a row with no bit set, and one above or below the field
module _ (s : Shape) (pen : Pen) (im : List ℕ) where
  row_empty : (x y : ℤ) {row : ℕ} → row ≡ 0 → left 0 im ≡ drawn s pen im (row_pixels x y row)
  unfolding drawn inside stores row_pixels gathered
  row_empty x y e = rw e

  row_beside : (x y : ℤ) (row : ℕ) → below s.height y ≡ false → left 0 im ≡ drawn s pen im (row_pixels x y row)
  unfolding drawn stores row_pixels
  row_beside x y row o = rw (none_inside s (bit_pixels x y row) 8 (λ k _. beside s (is_set row k) (x +ℤ pos k) y o))

-- ---- a turn of a cell's loop: the line of row i is drawn, has no bit set, or is above or below the field
module _ (s : Shape) (pen : Pen) (im : List ℕ) (corner : Pixel) (cell : List ℕ) (i : ℕ) {n : ℕ} {im' : List ℕ} (e : left n im' ≡ drawn s pen im (gathered (row_at corner cell) i)) where
  pub cell_empty : get_or cell i 0 ≡ 0 → left n im' ≡ drawn s pen im (gathered (row_at corner cell) (i + 1))
  cell_empty z = drawn_skip s pen im (row_at corner cell) i e (row_empty s pen im' corner.x.0 (corner.y.0 +ℤ pos (7 - i)) z)

  pub cell_beside : below s.height (corner.y.0 +ℤ pos (7 - i)) ≡ false → left n im' ≡ drawn s pen im (gathered (row_at corner cell) (i + 1))
  cell_beside o = drawn_skip s pen im (row_at corner cell) i e (row_beside s pen im' corner.x.0 (corner.y.0 +ℤ pos (7 - i)) (get_or cell i 0) o)

  pub cell_turn : {r : ℕ} {im'' : List ℕ} → left r im'' ≡ drawn s pen im' (row_at corner cell i) → left (n + r) im'' ≡ drawn s pen im (gathered (row_at corner cell) (i + 1))
  cell_turn d = drawn_turn s pen im (row_at corner cell) i e d

-- ---- a cell right or left of the field
aside_outside : (x : ℤ) (k : ℕ) → aside x ≡ true → k < 8 → below 512 (x +ℤ pos k) ≡ false
unfolding aside
aside_outside x k e h = ⊎_elim left_of right_of ((either_true {s = lt_z x (negsuc 6)} {t = lt_z (pos 511) x}).0 e)
  where
    left_of : lt_z x (negsuc 6) ≡ true → below 512 (x +ℤ pos k) ≡ false
    left_of t = let l : le_z (pos 0) (x +ℤ pos k) ≡ false = omega (whole, add x (pos k)) in rw l

    right_of : lt_z (pos 511) x ≡ true → below 512 (x +ℤ pos k) ≡ false
    right_of t = let r : lt_z (x +ℤ pos k) (pos 512) ≡ false = omega (whole, add x (pos k)) in simp (r, and-false)

pub cell_aside : (s : Shape) (pen : Pen) (im : List ℕ) (corner : Pixel) (cell : List ℕ) {t : Bool} → s.width ≡ 512 → t ≡ aside corner.x.0 → t ≡ true → left 0 im ≡ drawn s pen im (cell_pixels corner cell)
unfolding drawn stores cell_pixels row_pixels
cell_aside s pen im corner cell w e t =
    rw (none_inside s (row_at corner cell) 8 (λ r _. none_inside s (bit_pixels corner.x.0 (corner.y.0 +ℤ pos (7 - r)) (get_or cell r 0)) 8
    (λ k l. past s (is_set (get_or cell r 0) k) (corner.x.0 +ℤ pos k) (corner.y.0 +ℤ pos (7 - r)) (rw w (aside_outside corner.x.0 k (sym e ∙ t) l)))))

-- ---- a cell by the indices of its corner
pub cell_inside : (s : Shape) (pen : Pen) (im : List ℕ) (corner : Pixel) (cell : List ℕ) (n : ℕ) {gx gy : Option ℕ} {x y r : ℕ} {im' : List ℕ}
    → gx ≡ index_in n corner.x → gx ≡ Some x → gy ≡ index_in n corner.y → gy ≡ Some y → left r im' ≡ drawn s pen im (cell_pixels (pixel (pos x) (pos y)) cell)
    → left r im' ≡ drawn s pen im (cell_pixels corner cell)
unfolding cell_pixels
cell_inside s pen im corner cell n ex ax ey ay d = rw (index_is n corner.x (sym ex ∙ ax), index_is n corner.y (sym ey ∙ ay)) d
