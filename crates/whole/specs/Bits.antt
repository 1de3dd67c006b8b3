-- The machine's signed numbers. A signed local holds bits, which each operation reads by `to_z w` and writes by `of_z w`. These laws follow a computation
-- operand by operand: an equation says which number an operand is, and the law gives the same of the result, where that fits.
use Rattle.std.specs.Prelude.{◌≡◌, refl, ℕ, ℤ}
use Rattle.std.proofs.Common.{arith, SFits, to_z, of_z, to_z-of_z}
use Rattle.std.specs.Int.Signed.{shr_z, mag_shr}
use Rattle.std.specs.Int.{Width, w32, w64}
use mir.ValLaws.{sfits_le}

-- what is read back from the bits of z
abbrev pub rd : Width → ℤ → ℤ
rd w z = to_z w (of_z w z)

-- a literal operand
pub lit : (z : ℤ) → z ≡ z
lit z = refl

-- f: a sum, a difference, a product
module _ {w : Width} {x y a b : ℤ} (f : ℤ → ℤ → ℤ) (p : a ≡ x) (q : b ≡ y) (fr : SFits w (f x y)) where
  pub op_fits : SFits w (f a b)
  op_fits = rw (p, q) fr

  pub op_back : rd w (f a b) ≡ f x y
  op_back = rw (p, q) (to_z-of_z fr)

-- a shift to the right
pub shr_back : {w : Width} {x a : ℤ} (m : ℕ) → a ≡ x → SFits w x → rd w (shr_z a m) ≡ shr_z x m
shr_back {x = x} m p f = rw p (to_z-of_z (sfits_le (mag_shr x m) f))

-- a cast from 32 bits to 64
pub wide : {z : ℤ} → SFits w32 z → SFits w64 z
wide f = record { sfits = omega (arith, f.sfits) }
