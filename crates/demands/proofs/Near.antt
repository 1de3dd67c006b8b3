-- How near a vector's pixels lie to the exact points, along one axis, where d units make a pixel.
use Prim.Native.Nat.{ℕ, ◌+◌, ◌*◌, ◌-◌, ◌≤◌, ◌<◌}
use mathlib.Core.Path.{◌≡◌, ap}
use native.Mathlib.Nat.{mul-le-mul_left}
use mathlib.Core.Logic.{◌↔◌}
use lib.IntN.{ℤ, pos, nat_abs, ◌+ℤ◌, ◌-ℤ◌, ◌*ℤ◌}
use lib.Signed.{shr_z, ◌≤ℤ◌, ◌<ℤ◌}
use Rattle.whole.specs.Parts.{whole, up, dn, add, sub, mul, floor, floor_is, abs}
use Rattle.definition.specs.Units.{pixels_of}
use Rattle.definition.specs.Vector.{rounded}
use Rattle.definition.specs.declared.Units.{Units}
use Rattle.definition.proofs.VectorLaws.{top, top_parts}
use Rattle.demands.specs.Exact.{exact}

-- the numerator of the exact point, by its parts
exact_parts : (x y : ℤ) (n i : ℕ) → up (exact x y n i) + (dn x * (n - i) + dn y * i) ≡ dn (exact x y n i) + (up x * (n - i) + up y * i)
exact_parts x y n i = omega (whole, mul x (pos (n - i)), mul y (pos i), add (x *ℤ pos (n - i)) (y *ℤ pos i))

-- In naturals, n = i + j. Of the pixel e: n times it lies within a half of the ends' pixels p and q, weighed by j and i;
-- c is the way from p to q, z the pixel's numerator.
weighed : (n i j : ℕ) → n ≡ i + j → (p q c z e : ℤ)
    → up c + (dn q + up p) ≡ dn c + (up q + dn p)
    → up z + (2 * (n * dn p) + 2 * (i * dn c)) ≡ dn z + (2 * (n * up p) + 2 * (i * up c) + n)
    → (2 * n * up e + dn z ≤ up z + 2 * n * dn e) × (up z + 2 * n * dn e < 2 * n * up e + dn z + 2 * n)
    → (2 * (n * up e) + 2 * (dn p * j + dn q * i) ≤ 2 * (n * dn e) + 2 * (up p * j + up q * i) + n)
    × (2 * (n * dn e) + 2 * (up p * j + up q * i) < 2 * (n * up e) + 2 * (dn p * j + dn q * i) + n)
weighed n i j s p q c z e hc hz he = omega (whole, ap (λ (t : ℕ). i * t) hc, ap (λ (t : ℕ). t * up p) s, ap (λ (t : ℕ). t * dn p) s)

-- the ends, weighed: what the halving of x and y to p and q loses
lost : (d k : ℕ) (x p : ℤ) → (d * up p + dn x ≤ up x + d * dn p) × (up x + d * dn p < d * up p + dn x + d)
    → (d * (up p * k) + dn x * k ≤ up x * k + d * (dn p * k)) × (up x * k + d * (dn p * k) + k ≤ d * (up p * k) + dn x * k + d * k)
lost d k x p h = let a : up x + d * dn p + 1 ≤ d * up p + dn x + d = omega whole in omega (whole, mul-le-mul_left k h.0, mul-le-mul_left k a)

-- both together, over the naturals that they speak of: a and b are the parts of n times the pixel, u and v those of the ends' pixels weighed,
-- r and t those of the ends weighed, k and l those of the exact numerator
bound : (d n a b u v r t k l : ℕ) → 2 ≤ d → 0 < n
    → (2 * a + 2 * v ≤ 2 * b + 2 * u + n) × (2 * b + 2 * u < 2 * a + 2 * v + n)
    → (d * u + t ≤ r + d * v) × (r + d * v + n ≤ d * u + t + d * n)
    → k + t ≡ l + r
    → (2 * (d * a) + 2 * l + 2 * n < 2 * (d * b) + 2 * k + 3 * (d * n)) × (2 * (d * b) + 2 * k + 2 * n < 2 * (d * a) + 2 * l + 3 * (d * n))
bound d n a b u v r t k l two some h g e =
    let strict : 2 * b + 2 * u + 1 ≤ 2 * a + 2 * v + n = omega whole in
    omega (whole, mul-le-mul_left d h.0, mul-le-mul_left d strict, mul-le-mul_left n two)

-- along an axis from x to y: 2dn times the pixel differs from twice the numerator of its exact point by less than n (3d - 2)
near_parts : (d : ℕ) (x y : ℤ) (n i : ℕ) → 2 ≤ d → 0 < n → i ≤ n
    → let e = rounded (shr_z x d) (shr_z y d -ℤ shr_z x d) n i in
    (2 * (d * (n * up e)) + 2 * dn (exact x y n i) + 2 * n < 2 * (d * (n * dn e)) + 2 * up (exact x y n i) + 3 * (d * n))
    × (2 * (d * (n * dn e)) + 2 * up (exact x y n i) + 2 * n < 2 * (d * (n * up e)) + 2 * dn (exact x y n i) + 3 * (d * n))
unfolding rounded
near_parts d x y n i two some within =
    let j = n - i in
    let p = shr_z x d in
    let q = shr_z y d in
    let c = q -ℤ p in
    let z = top p c n i in
    let s : n ≡ i + j = omega whole in
    let e = shr_z z (2 * n) in
    let hx = lost d j x p (floor x d (omega whole)) in
    let hy = lost d i y q (floor y d (omega whole)) in
    bound d n (n * up e) (n * dn e) (up p * j + up q * i) (dn p * j + dn q * i) (up x * j + up y * i) (dn x * j + dn y * i) (up (exact x y n i)) (dn (exact x y n i)) two some
    (weighed n i j s p q c z e (sub_way p q) (top_parts p c n i) (floor z (2 * n) (omega whole)))
    (omega (whole, hx, hy), omega (whole, hx, hy, ap (λ (t : ℕ). d * t) s))
    (exact_parts x y n i)
  where
    sub_way : (p q : ℤ) → up (q -ℤ p) + (dn q + up p) ≡ dn (q -ℤ p) + (up q + dn p)
    sub_way p q = sub q p

-- document 01's bound, with two units a pixel
pub near : (x y : ℤ) (n i : ℕ) → 0 < n → i ≤ n
    → nat_abs (pos (2 * n) *ℤ rounded (shr_z x 2) (shr_z y 2 -ℤ shr_z x 2) n i -ℤ exact x y n i) < 2 * n
near x y n i some within =
    let e = rounded (shr_z x 2) (shr_z y 2 -ℤ shr_z x 2) n i in
    let h = near_parts 2 x y n i (omega whole) some within in
    omega (whole, h, mul (pos (2 * n)) e, sub (pos (2 * n) *ℤ e) (exact x y n i), abs (pos (2 * n) *ℤ e -ℤ exact x y n i))

-- where n is 0: d times the pixel of an end differs from it by at most d - 1
pub near_end : (d : ℕ) (x : ℤ) → 0 < d → nat_abs (pos d *ℤ shr_z x d -ℤ x) ≤ d - 1
near_end d x h = omega (whole, floor x d h, mul (pos d) (shr_z x d), sub (pos d *ℤ shr_z x d) x, abs (pos d *ℤ shr_z x d -ℤ x))

-- ---- a pixel of d units is the quotient rounded down, and nothing else is
pub pixel_floor : (d : ℕ) (u : Units) (p : ℤ) → 0 < d → ((pixels_of d u).0 ≡ p) ↔ (((pos d *ℤ p) ≤ℤ u.0) × (u.0 <ℤ (pos d *ℤ p +ℤ pos d)))
unfolding pixels_of
pixel_floor d u p h = (λ e. there (rw e at (floor u.0 d h)), λ w. back w.0 w.1)
  where
    there : (d * up p + dn u.0 ≤ up u.0 + d * dn p) × (up u.0 + d * dn p < d * up p + dn u.0 + d) → ((pos d *ℤ p) ≤ℤ u.0) × (u.0 <ℤ (pos d *ℤ p +ℤ pos d))
    there f = (omega (whole, f, mul (pos d) p), omega (whole, f, mul (pos d) p, add (pos d *ℤ p) (pos d)))

    back : (pos d *ℤ p) ≤ℤ u.0 → u.0 <ℤ (pos d *ℤ p +ℤ pos d) → shr_z u.0 d ≡ p
    back l k = floor_is u.0 p d h (omega (whole, mul (pos d) p)) (omega (whole, mul (pos d) p, add (pos d *ℤ p) (pos d)))
