-- A vector drawn pixel after pixel: a turn of the loop, and where it has come to at its end.
use Prim.Native.Nat.{ℕ, suc, ◌+◌, max}
use mathlib.Core.Path.{◌≡◌}
use mathlib.Core.List.{List, [], ◌∷◌}
use native.Mathlib.Numerals.{add-one}
use borrow.Author.Tests.{eq-eqb, ne_eqb}
use lib.IntN.{ℤ, nat_abs, ◌-ℤ◌}
use Rattle.definition.specs.Units.{pixel}
use Rattle.definition.specs.Image.{Shape, Pen, left}
use Rattle.definition.specs.Vector.{longer, nth, numbered, vector}
use Rattle.definition.specs.declared.Pixel.{Pixel}
use Rattle.image.specs.Drawn.{drawn}
use Rattle.image.proofs.DrawnLaws.{drawn_more}

pub walk_turn : (s : Shape) (pen : Pen) (im : List ℕ) (f : ℕ → Pixel) (i : ℕ) {p : Pixel} {n r : ℕ} {im' im'' : List ℕ}
    → left n im' ≡ drawn s pen im (numbered f i) → p ≡ f i → left r im'' ≡ drawn s pen im' (p ∷ []) → left (n + r) im'' ≡ drawn s pen im (numbered f (i + 1))
unfolding numbered
walk_turn s pen im f i e ep d = rw (add-one i, ← ep) (drawn_more s pen im (numbered f i) _ e d)

pub longer_is : {a b : Pixel} {n : ℕ} {x y x1 y1 : ℤ} → pixel x y ≡ a → pixel x1 y1 ≡ b → n ≡ max (nat_abs (x1 -ℤ x)) (nat_abs (y1 -ℤ y)) → n ≡ longer a b
unfolding longer
longer_is ea eb e = rw (← ea, ← eb) e

module _ (a b : Pixel) where
  pub vector_one : longer a b ≡ 0 → (a ∷ []) ≡ vector a b
  unfolding vector
  vector_one e = rw (eq-eqb (longer a b) 0 e)

  pub vector_walked : (i : ℕ) → (longer a b ≡ 0 → ⊥) → i ≡ suc (longer a b) → numbered (nth a b) i ≡ vector a b
  unfolding vector
  vector_walked i h e = rw (ne_eqb (longer a b) 0 h, e)
