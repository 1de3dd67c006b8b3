-- A walk along the marks of a course draws the vector: a turn of its loop, its pixels, and that beyond its span nothing is in the field.
use Prim.Native.Nat.{ℕ, zero, suc, ◌+◌, ◌-◌, ◌*◌, ◌/◌, ◌%◌, ◌≤◌, ◌<◌}
use mathlib.Core.Bool.{Bool, true, false}
use mathlib.Core.Path.{◌≡◌, refl, sym, ap, ◌∙◌}
use mathlib.Core.List.{List, [], ◌∷◌, ◌++◌, append_assoc, append-nil}
use native.Mathlib.Omega.{arith}
use native.Mathlib.Nat.{add-zero, add-suc}
use native.Mathlib.Numerals.{add-one}
use lib.Dec.{leb}
use lib.IntN.{ℤ, pos, nat_abs}
use lib.Signed.{le_z, lt_z}
use borrow.Author.Tests.{leb-true, leb-false}
use Rattle.whole.specs.Parts.{whole, abs}
use Rattle.definition.specs.Units.{pixel}
use Rattle.definition.specs.Image.{Pen, square, below, in_field, inside, store, stores, left}
use Rattle.definition.specs.Vector.{longer, nth, numbered, vector}
use Rattle.definition.specs.declared.Pixel.{Pixel}
use Rattle.definition.proofs.Plain.{both_true}
use Rattle.definition.proofs.StoreLaws.{inside_append}
use Rattle.image.specs.Drawn.{drawn}
use Rattle.course.specs.Course.{above, visible, mark, paces_of, stepped, marks, Spans}
use Rattle.course.specs.declared.Course.{Course}
use Rattle.course.specs.declared.Paces.{Paces}
use Rattle.course.proofs.MarkLaws.{number_most, mark_number, marks_are}
use Rattle.vector.proofs.WalkLaws.{vector_walked}
use Rattle.walk.specs.Walk.{Tells, Follows, standing}

-- ---- a turn of the loop
in_field_is : (x y : ℕ) → x < 512 → y < 512 → in_field square (pixel (pos x) (pos y)) ≡ true
unfolding in_field
in_field_is x y hx hy =
    let a : below 512 (pos x) ≡ true = (both_true {s = le_z (pos 0) (pos x)} {t = lt_z (pos x) (pos 512)}).1 (omega whole, omega whole) in
    let b : below 512 (pos y) ≡ true = (both_true {s = le_z (pos 0) (pos y)} {t = lt_z (pos y) (pos 512)}).1 (omega whole, omega whole) in
    rw (a, b)

pub store_drawn : (pen : Pen) (im : List ℕ) (m : ℕ) {im' : List ℕ} → m % above < 262144 → im' ≡ store square pen im (m % above % 512) (m % above / 512) → left 1 im' ≡ drawn square pen im (standing m ∷ [])
unfolding drawn inside stores standing
store_drawn pen im m l e = rw (in_field_is (m % above % 512) (m % above / 512) (omega arith) (omega arith), e)

pub marks_more : (p : Paces) (m i : ℕ) {at at' : ℕ} → at ≡ marks p m i → at' ≡ stepped p at → at' ≡ marks p m (i + 1)
unfolding marks
marks_more p m i e e' = rw (add-one i, ← e) e'

-- ---- pixels by their numbers
module _ (f : ℕ → Pixel) where
  numbered_split : (p q : ℕ) → numbered f (p + q) ≡ numbered f p ++ numbered (λ i. f (p + i)) q
  unfolding numbered
  numbered_split p zero = simp (add-zero, append-nil)
  numbered_split p (suc q) = rw (add-suc p q, numbered_split p q, append_assoc)

  inside_none : (k : ℕ) → ((i : ℕ) → i < k → in_field square (f i) ≡ false) → inside square (numbered f k) ≡ []
  unfolding numbered inside
  inside_none zero e = refl
  inside_none (suc k) e = rw (inside_append square (numbered f k) (f k ∷ []), inside_none k (λ i l. e i (omega arith)), e k (omega arith))

numbered_same : (f g : ℕ → Pixel) (k : ℕ) → ((i : ℕ) → i < k → f i ≡ g i) → numbered f k ≡ numbered g k
unfolding numbered
numbered_same f g zero e = refl
numbered_same f g (suc k) e = rw (numbered_same f g k (λ i l. e i (omega arith)), e k (omega arith))

-- ---- the pixel of a mark
coordinate : (z : ℤ) → below 512 z ≡ true → (nat_abs z < 512) × (pos (nat_abs z) ≡ z)
coordinate z e = let b = (both_true {s = le_z (pos 0) z} {t = lt_z z (pos 512)}).0 e in (omega (whole, abs z), omega (whole, abs z))

stands : (m : ℕ) (p : Pixel) → in_field square p ≡ true → m % above ≡ 512 * nat_abs p.y.0 + nat_abs p.x.0 → standing m ≡ p
unfolding standing in_field
stands m p f e =
    let b = (both_true {s = below 512 p.x.0} {t = below 512 p.y.0}).0 f in
    let x = coordinate p.x.0 b.0 in
    let y = coordinate p.y.0 b.1 in
    let ex : (512 * nat_abs p.y.0 + nat_abs p.x.0) % 512 ≡ nat_abs p.x.0 = omega arith in
    let ey : (512 * nat_abs p.y.0 + nat_abs p.x.0) / 512 ≡ nat_abs p.y.0 = omega arith in
    rw (e, ex, ey, x.1, y.1)

-- ---- the walk over a span of the vector's course
module _ (a b : Pixel) (c : Course) {first end : ℕ} (f : Follows a b c) (p : 0 < c.long.size) (w : Spans c first end) where
  some : 0 < longer a b
  some = omega (arith, f.long)

  walked : numbered (nth a b) (suc (longer a b)) ≡ vector a b
  walked = vector_walked a b (suc (longer a b)) (λ e. absurd (omega arith)) refl

  tells : (i : ℕ) → i ≤ longer a b → Tells c i (nth a b i)
  tells = f.tells some

  unseen : (i : ℕ) → i ≤ longer a b → visible c i ≡ false → in_field square (nth a b i) ≡ false
  unseen i l e = sym (tells i l).seen ∙ e

  module _ (i : ℕ) (l : first + i < end) where
    seen : visible c (first + i) ≡ true
    seen = w.seen (first + i) (omega arith) l

    few : first + i ≤ longer a b
    few = let m = w.most in let n = f.long in omega arith

    pub marks_small : marks (paces_of c) (mark c first) i % above < 262144
    marks_small = rw (marks_are c f.sound p w i l, mark_number c (first + i) f.sound seen) (number_most c (first + i) f.sound seen)

    marks_stand : standing (marks (paces_of c) (mark c first) i) ≡ nth a b (first + i)
    marks_stand =
        let t = tells (first + i) few in
        ap standing (marks_are c f.sound p w i l) ∙ stands (mark c (first + i)) (nth a b (first + i)) (sym t.seen ∙ seen) (mark_number c (first + i) f.sound seen ∙ t.counted seen)

  module _ (pen : Pen) (im : List ℕ) where
    pub drawn_none : end ≤ first → left 0 im ≡ drawn square pen im (vector a b)
    unfolding drawn stores
    drawn_none l = rw (← walked, inside_none (nth a b) (suc (longer a b)) out)
      where
        out : (i : ℕ) → i < suc (longer a b) → in_field square (nth a b i) ≡ false
        out i r = go (leb first i) refl
          where
            go : (t : Bool) → leb first i ≡ t → in_field square (nth a b i) ≡ false
            go true e = let z = leb-true first i e in unseen i (omega arith) (w.after i (omega arith) (omega (arith, f.long)))
            go false e = unseen i (omega arith) (w.before i (leb-false first i e) (omega (arith, f.long)))

    pub drawn_walked : {im' : List ℕ} {k : ℕ} → first + k ≡ end → left k im' ≡ drawn square pen im (numbered (λ i. standing (marks (paces_of c) (mark c first) i)) k) → left k im' ≡ drawn square pen im (vector a b)
    unfolding drawn
    drawn_walked {im'} {k} e d = rw (← walked, all, ← same) d
      where
        same : numbered (λ i. standing (marks (paces_of c) (mark c first) i)) k ≡ numbered (λ i. nth a b (first + i)) k
        same = numbered_same (λ i. standing (marks (paces_of c) (mark c first) i)) (λ i. nth a b (first + i)) k (λ i l. marks_stand i (omega arith))

        rest : ℕ
        rest = suc (longer a b) - end

        total : suc (longer a b) ≡ first + (k + rest)
        total = let m = w.most in omega (arith, f.long)

        lead : inside square (numbered (nth a b) first) ≡ []
        lead = inside_none (nth a b) first (λ i l. let m = w.most in let n = f.long in unseen i (omega arith) (w.before i l (omega arith)))

        trail : inside square (numbered (λ i. nth a b (first + (k + i))) rest) ≡ []
        trail = inside_none (λ i. nth a b (first + (k + i))) rest (λ i l. let n = f.long in unseen (first + (k + i)) (omega arith) (w.after (first + (k + i)) (omega arith) (omega arith)))

        all : inside square (numbered (nth a b) (suc (longer a b))) ≡ inside square (numbered (λ i. nth a b (first + i)) k)
        all =
            ap (λ (n : ℕ). inside square (numbered (nth a b) n)) total
            ∙ ap (λ (l : List Pixel). inside square l) (numbered_split (nth a b) first (k + rest))
            ∙ inside_append square (numbered (nth a b) first) (numbered (λ i. nth a b (first + i)) (k + rest))
            ∙ rw (lead, numbered_split (λ i. nth a b (first + i)) k rest, inside_append square (numbered (λ i. nth a b (first + i)) k) (numbered (λ i. nth a b (first + (k + i))) rest), trail, append-nil)
