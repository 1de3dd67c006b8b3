-- A digit of a byte in base four, by shifts: digit k stands at bit 2k.
use Prim.Native.Nat.{ℕ, zero, suc, ◌+◌, ◌-◌, ◌*◌, ◌/◌, ◌%◌, ◌^◌, ◌<◌}
use mathlib.Core.Path.{◌≡◌, ◌∙◌}
use native.Mathlib.Omega.{arith}
use lib.Bits.{bit_and, bit_or, and_high, and_shr, and_mod, and_mask, or_block, or_shifted, or_zero_r}
use Rattle.definition.specs.Image.{digit, put_digit}

pub shifted_digit : (byte k : ℕ) → k < 4 → byte / 2 ^ (2 * k) % 4 ≡ digit 4 k byte
unfolding digit
shifted_digit byte zero h = omega arith
shifted_digit byte (suc zero) h = omega arith
shifted_digit byte (suc (suc zero)) h = omega arith
shifted_digit byte (suc (suc (suc zero))) h = omega arith
shifted_digit byte (suc (suc (suc (suc k)))) h = absurd (omega arith)

-- ---- a digit put there: the bits of the others stay
abbrev pub others : ℕ → ℕ
others k = 255 - 3 * 2 ^ (2 * k) % 2 ^ 8

kept : (byte k : ℕ) → byte < 256 → k < 4 → bit_and byte (others k) ≡ byte / (4 ^ k * 4) * 4 * 4 ^ k + byte % 4 ^ k
kept byte zero hb h = omega (arith, and_high byte 6 2)
kept byte (suc zero) hb h = omega (arith, and_shr byte 243 4, and_mask (byte / 16) 4, and_mod byte 243 4, and_mask (byte % 16) 2)
kept byte (suc (suc zero)) hb h = omega (arith, and_shr byte 207 6, and_mask (byte / 64) 2, and_mod byte 207 6, and_mask (byte % 64) 4)
kept byte (suc (suc (suc zero))) hb h = omega (arith, and_mask byte 6)
kept byte (suc (suc (suc (suc k)))) hb h = absurd (omega arith)

-- above a place, at it and below it
joined : (hi lo k v : ℕ) → lo < 2 ^ k → v < 4 → bit_or (hi * 4 * 2 ^ k + lo) (v * 2 ^ k) ≡ (hi * 4 + v) * 2 ^ k + lo
joined hi lo k v l hv =
    let z : v * 2 ^ k ≡ v * 2 ^ k + 0 = omega arith in
    rw z (or_block k (hi * 4) v lo 0 l (omega (arith, l)) ∙ rw (or_shifted hi 2 v hv, or_zero_r lo))

pub put : (byte k v : ℕ) → byte < 256 → k < 4 → v < 4 → bit_or (bit_and byte (others k)) (v * 2 ^ (2 * k) % 2 ^ 8) ≡ put_digit 4 k byte v
unfolding put_digit
put byte k v hb h hv = rw (kept byte k hb h) (go k h)
  where
    go : (k : ℕ) → k < 4 → bit_or (byte / (4 ^ k * 4) * 4 * 4 ^ k + byte % 4 ^ k) (v * 2 ^ (2 * k) % 2 ^ 8) ≡ (byte / (4 ^ k * 4) * 4 + v) * 4 ^ k + byte % 4 ^ k
    go zero h = let e : v * 1 % 256 ≡ v * 1 = omega arith in rw e (joined (byte / 4) (byte % 1) 0 v (omega arith) hv)
    go (suc zero) h = let e : v * 4 % 256 ≡ v * 4 = omega arith in rw e (joined (byte / 16) (byte % 4) 2 v (omega arith) hv)
    go (suc (suc zero)) h = let e : v * 16 % 256 ≡ v * 16 = omega arith in rw e (joined (byte / 64) (byte % 16) 4 v (omega arith) hv)
    go (suc (suc (suc zero))) h = let e : v * 64 % 256 ≡ v * 64 = omega arith in rw e (joined (byte / 256) (byte % 64) 6 v (omega arith) hv)
    go (suc (suc (suc (suc k)))) h = absurd (omega arith)
