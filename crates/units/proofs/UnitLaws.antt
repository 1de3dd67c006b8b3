-- What the functions of this crate compute in the machine's bits, over plain numbers.
use Prim.Native.Nat.{ℕ, ◌<◌, ◌≤◌}
use mathlib.Core.Path.{◌≡◌, refl, ap, ◌∙◌}
use Rattle.std.specs.Prelude.{Some, None}
use mathlib.Core.Bool.{Bool, true, false}
use lib.IntN.{ℤ, pos, negsuc, neg_ℤ, nat_abs, ◌+ℤ◌, ◌-ℤ◌}
use lib.Signed.{lt_z, le_z, shr_z}
use mir.Syntax.{w32, w64}
use mir.Val.{SFits, to_z}
use mir.Facts.{to_z-of_z, to_z_pos}
use Rattle.std.specs.Int.{FitsUnsignedBits}
use Rattle.whole.specs.Parts.{whole, add, neg, sub}
use Rattle.whole.specs.Bits.{rd, lit, op_fits, op_back, shr_back, wide}
use Rattle.definition.specs.Units.{units, pixels, pixels_of, moved}
use Rattle.definition.specs.Image.{square, pixel_at}
use Rattle.definition.specs.Words.{move}
use Rattle.definition.specs.Machine.{in_range}
use Rattle.definition.specs.declared.Units.{Units}
use Rattle.definition.specs.declared.Pixels.{Pixels}
use Rattle.definition.proofs.Plain.{both_true}
use Rattle.units.specs.Answers.{index_in}

-- ---- the halving
pub halved : (u : Units) → SFits w32 u.0 → pixels (rd w32 (shr_z (rd w32 u.0) 2)) ≡ pixels_of 2 u
unfolding pixels_of
halved u f = ap pixels (shr_back 2 (to_z-of_z f) f)

pub both_halved : (x y : Units) {px py : Pixels} → px ≡ pixels_of 2 x → py ≡ pixels_of 2 y → record { x = px; y = py } ≡ pixel_at square x y
unfolding pixel_at
both_halved x y ex ey = rw (ex, ey)

-- ---- sign and size
module _ (n : ℕ) (h : n < 65536) where
  size : to_z w32 n ≡ pos n
  size = to_z_pos w32 (omega whole)

  room : SFits w32 (pos 0 -ℤ pos n)
  room = omega (whole, sub (pos 0) (pos n))

  pub minus : {t : Bool} → t ≡ true → units (rd w32 (pos 0 -ℤ to_z w32 n)) ≡ move t n
  unfolding move
  minus t =
      let e : pos 0 -ℤ pos n ≡ neg_ℤ (pos n) = omega (whole, sub (pos 0) (pos n), neg (pos n)) in
      rw t (ap units (op_back ◌-ℤ◌ (lit (pos 0)) size room ∙ e))

  pub plus : {t : Bool} → t ≡ false → units (to_z w32 n) ≡ move t n
  unfolding move
  plus t = rw t (ap units size)

-- ---- the move
pub widened : (u : Units) → SFits w32 u.0 → {x : ℤ} → x ≡ rd w32 u.0 → rd w64 x ≡ u.0
widened u f e = ap (rd w64) (e ∙ to_z-of_z f) ∙ to_z-of_z (wide f)

module _ (u by : Units) (fu : SFits w32 u.0) (fb : SFits w32 by.0) where
  -- the sum in 64 bits
  pub sum_is : {x y : ℤ} → x ≡ rd w32 u.0 → y ≡ rd w32 by.0 → units (rd w64 (rd w64 x +ℤ rd w64 y)) ≡ moved u by
  unfolding moved
  sum_is ex ey = let r : SFits w64 (u.0 +ℤ by.0) = omega (whole, add u.0 by.0) in ap units (op_back ◌+ℤ◌ (widened u fu ex) (widened by fb ey) r)

  -- a sum within the range fits in 32 bits
  module _ (h : in_range (moved u by) ≡ true) where
    narrow : SFits w32 (u.0 +ℤ by.0)
    unfolding in_range moved
    narrow = let b = (both_true {s = le_z (negsuc 4095) (u.0 +ℤ by.0)} {t = le_z (u.0 +ℤ by.0) (pos 4095)}).0 h in omega whole

    pub add_fits : SFits w32 (rd w32 u.0 +ℤ rd w32 by.0)
    add_fits = op_fits ◌+ℤ◌ (to_z-of_z fu) (to_z-of_z fb) narrow

    pub add_is : units (rd w32 (rd w32 u.0 +ℤ rd w32 by.0)) ≡ moved u by
    unfolding moved
    add_is = ap units (op_back ◌+ℤ◌ (to_z-of_z fu) (to_z-of_z fb) narrow)

-- ---- the index
module _ (n : ℕ) where
  at_index : (z : ℤ) → FitsUnsignedBits 64 z → nat_abs z < n → Some (nat_abs z) ≡ index_in n (pixels z)
  unfolding index_in
  at_index (pos m) h t =
      let l : le_z (pos 0) (pos m) ≡ true = omega whole in
      let u : lt_z (pos m) (pos n) ≡ true = omega whole in
      rw (l, u)
  at_index (negsuc m) h t = absurd h

  past_index : (z : ℤ) → FitsUnsignedBits 64 z → n ≤ nat_abs z → None ≡ index_in n (pixels z)
  unfolding index_in
  past_index (pos m) h t =
      let l : le_z (pos 0) (pos m) ≡ true = omega whole in
      let u : lt_z (pos m) (pos n) ≡ false = omega whole in
      rw (l, u)
  past_index (negsuc m) h t = absurd h

  no_index : (z : ℤ) → SFits w32 z → (FitsUnsignedBits 64 z → ⊥) → None ≡ index_in n (pixels z)
  unfolding index_in
  no_index (pos m) f h = absurd (h (omega whole))
  no_index (negsuc m) f h = refl

  module _ (p : Pixels) (f : SFits w32 p.0) where
    pub in_field_is : {i : ℕ} → FitsUnsignedBits 64 (rd w32 p.0) × (i ≡ nat_abs (rd w32 p.0)) → i < n → Some i ≡ index_in n p
    in_field_is w t = let e = to_z-of_z f in rw w.1 (rw e (at_index p.0 (rw e at w.0) (rw (w.1, e) at t)))

    pub too_far : {i : ℕ} → FitsUnsignedBits 64 (rd w32 p.0) × (i ≡ nat_abs (rd w32 p.0)) → n ≤ i → None ≡ index_in n p
    too_far w t = let e = to_z-of_z f in past_index p.0 (rw e at w.0) (rw (w.1, e) at t)

    pub negative : (FitsUnsignedBits 64 (rd w32 p.0) → ⊥) → None ≡ index_in n p
    negative h = no_index p.0 f (rw (to_z-of_z f) at h)
