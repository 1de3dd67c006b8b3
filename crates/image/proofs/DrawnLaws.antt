-- Laws of drawing pixels: one that is in the field or not, some after others, and how many are stored at most.
use Prim.Native.Nat.{ℕ, ◌+◌, ◌≤◌}
use mathlib.Core.Bool.{Bool, true, false}
use mathlib.Core.Path.{◌≡◌, sym, ap, ◌∙◌}
use mathlib.Core.List.{List, [], ◌∷◌, ◌++◌}
use native.Mathlib.Omega.{arith}
use lib.ListN.{length, length-append}
use Rattle.std.specs.Prelude.{Option, Some, None}
use Rattle.definition.specs.Choice.{pick}
use Rattle.definition.specs.Image.{Shape, Pen, in_field, inside, store, stores, Left, left}
use Rattle.definition.specs.declared.Pixel.{Pixel}
use Rattle.definition.proofs.StoreLaws.{stores_append, inside_append}
use Rattle.units.specs.Answers.{index_in}
use Rattle.units.proofs.AnswerLaws.{index_at, index_outside}
use Rattle.image.specs.Drawn.{drawn}

-- ---- one pixel
module _ (s : Shape) (pen : Pen) (im : List ℕ) (p : Pixel) {gx : Option ℕ} where
  pub drawn_beside : gx ≡ index_in s.width p.x → gx ≡ None → left 0 im ≡ drawn s pen im (p ∷ [])
  unfolding drawn inside in_field stores
  drawn_beside e o = rw (index_outside s.width p.x (sym e ∙ o))

  pub drawn_above : {x : ℕ} {gy : Option ℕ} → gx ≡ index_in s.width p.x → gx ≡ Some x → gy ≡ index_in s.height p.y → gy ≡ None → left 0 im ≡ drawn s pen im (p ∷ [])
  unfolding drawn inside in_field stores
  drawn_above e a e' o = rw ((index_at s.width p.x (sym e ∙ a)).0, index_outside s.height p.y (sym e' ∙ o))

  pub drawn_in : {x y : ℕ} {gy : Option ℕ} {im' : List ℕ} → gx ≡ index_in s.width p.x → gx ≡ Some x → gy ≡ index_in s.height p.y → gy ≡ Some y → im' ≡ store s pen im x y
      → left 1 im' ≡ drawn s pen im (p ∷ [])
  unfolding drawn inside in_field stores
  drawn_in e a e' a' st =
      let ix = index_at s.width p.x (sym e ∙ a) in
      let iy = index_at s.height p.y (sym e' ∙ a') in
      rw (ix.0, iy.0, st, ix.1, iy.1)

-- ---- pixels after others
module _ (s : Shape) (pen : Pen) (im : List ℕ) (ps : List Pixel) where
  pub drawn_then : (qs : List Pixel) {n r : ℕ} {im' im'' : List ℕ} → left n im' ≡ drawn s pen im ps → left r im'' ≡ drawn s pen im' qs → left (n + r) im'' ≡ drawn s pen im (ps ++ qs)
  unfolding drawn
  drawn_then qs {n} {r} {im'} {im''} e d =
      let before = ap (λ (l : Left ℕ). l.image) e in
      let count = ap (λ (l : Left ℕ). l.result) e in
      let more = ap (λ (l : Left ℕ). l.result) d in
      let after = ap (λ (l : Left ℕ). l.image) d in
      let c : n + r ≡ length (inside s (ps ++ qs)) = rw (inside_append s ps qs) (rw (count, more) (sym (length-append (inside s ps) (inside s qs)))) in
      let i : im'' ≡ stores s pen im (inside s (ps ++ qs)) = rw (inside_append s ps qs) (after ∙ ap (λ (l : List ℕ). stores s pen l (inside s qs)) before ∙ sym (stores_append s pen im (inside s ps) (inside s qs))) in
      rw (c, i)

  pub drawn_more : (p : Pixel) {n r : ℕ} {im' im'' : List ℕ} → left n im' ≡ drawn s pen im ps → left r im'' ≡ drawn s pen im' (p ∷ []) → left (n + r) im'' ≡ drawn s pen im (ps ++ (p ∷ []))
  drawn_more p e d = drawn_then (p ∷ []) e d

-- ---- how many at most
pub inside_shorter : (s : Shape) (ps : List Pixel) → length (inside s ps) ≤ length ps
unfolding inside
inside_shorter s [] = omega arith
inside_shorter s (p ∷ ps) = go (in_field s p) (inside_shorter s ps)
  where
    go : (t : Bool) → length (inside s ps) ≤ length ps → length (pick t (p ∷ inside s ps) (inside s ps)) ≤ length (p ∷ ps)
    go true h = omega arith
    go false h = omega arith

module _ (s : Shape) (pen : Pen) (im : List ℕ) where
  pub drawn_few : (ps : List Pixel) {r : ℕ} {im' : List ℕ} → left r im' ≡ drawn s pen im ps → r ≤ length ps
  unfolding drawn
  drawn_few ps e = let c = ap (λ (l : Left ℕ). l.result) e in omega (arith, inside_shorter s ps)

  pub one_at_most : (p : Pixel) {r : ℕ} {im' : List ℕ} → left r im' ≡ drawn s pen im (p ∷ []) → r ≤ 1
  one_at_most p e = drawn_few (p ∷ []) e
