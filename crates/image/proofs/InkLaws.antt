-- The two tables of an ink: what is kept of a byte and what is set there make the byte with the digit put into it.
use Prim.Native.Nat.{ℕ, zero, suc, ◌+◌, ◌*◌, ◌/◌, ◌%◌, ◌^◌, ◌<◌}
use mathlib.Core.Path.{◌≡◌, refl}
use mathlib.Core.List.{List}
use native.Mathlib.Omega.{arith}
use lib.ListN.{get_or, set}
use lib.Bits.{bit_and, bit_or}
use Rattle.definition.specs.Image.{ink_shape, ink_pen, store}
use Rattle.definition.specs.declared.Ink.{Ink}
use Rattle.image.specs.Ink.{kept, inked}
use Rattle.image.proofs.DigitLaws.{others, put}
use Rattle.image.proofs.StoredLaws.{stored}

kept_at : (k : ℕ) (ink : Ink) → k < 4 → get_or (kept ink) k 0 ≡ others k
unfolding kept
kept_at zero ink h = refl
kept_at (suc zero) ink h = refl
kept_at (suc (suc zero)) ink h = refl
kept_at (suc (suc (suc zero))) ink h = refl
kept_at (suc (suc (suc (suc k)))) ink h = absurd (omega arith)

inked_at : (k : ℕ) (ink : Ink) → k < 4 → ink.value < 4 → get_or (inked ink) k 0 ≡ ink.value * 2 ^ (2 * k) % 2 ^ 8
unfolding inked
inked_at zero ink h hv = omega arith
inked_at (suc zero) ink h hv = omega arith
inked_at (suc (suc zero)) ink h hv = omega arith
inked_at (suc (suc (suc zero))) ink h hv = omega arith
inked_at (suc (suc (suc (suc k)))) ink h hv = absurd (omega arith)

-- the store by a pixel's number
pub stored_at : (im : List ℕ) (at : ℕ) (ink : Ink) {ks vs : List ℕ} → ks ≡ kept ink → vs ≡ inked ink → get_or im (at / 4) 0 < 256 → ink.value < (ink_shape ink).base
    → set im (at / 4) (bit_or (bit_and (get_or im (at / 4) 0) (get_or ks (at % 4) 0)) (get_or vs (at % 4) 0)) ≡ store (ink_shape ink) (ink_pen ink) im (at % 512) (at / 512)
stored_at im at ink ek ei hb hv =
    let h : at % 4 < 4 = omega arith in
    let b : at / 4 ≡ 128 * (at / 512) + at % 512 / 4 = omega arith in
    let d : at % 4 ≡ at % 512 % 4 = omega arith in
    rw (ek, ei, kept_at (at % 4) ink h, inked_at (at % 4) ink h hv, put (get_or im (at / 4) 0) (at % 4) ink.value hb h hv, b, d) (stored im (at % 512) (at / 512) ink refl)
