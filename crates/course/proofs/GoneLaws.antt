-- How many steps the shorter axis has made at pixel i, and what is carried there.
use Rattle.std.proofs.Common.{◌≡◌, ℕ, suc, ◌+◌, ◌-◌, ◌*◌, ◌/◌, ◌%◌, ◌<◌, ◌≤◌, mul-le-mul_right, mod-lt, mod-eq_of_lt, mul-le-mul, div-add-mod', arith}
use native.Mathlib.Nat.{div-eq_of_lt, lt_of_mul-lt-mul_left}
use lib.Arith.{digits_div, digits_mod}
use Rattle.course.specs.Course.{gone, carried}

-- ---- from pixel i to the next
module _ (n m half i : ℕ) (p : 0 < n) where
  abbrev top : ℕ
  top = 2 * (i * m) + half

  pub goes_straight : carried n m half i < 2 * n - 2 * m → (gone n m half (i + 1) ≡ gone n m half i) × (carried n m half (i + 1) ≡ carried n m half i + 2 * m)
  unfolding gone carried
  goes_straight l =
      let e = div-add-mod' top (2 * n) in
      let k : 2 * ((i + 1) * m) + half ≡ top / (2 * n) * (2 * n) + (top % (2 * n) + 2 * m) = omega (arith, e) in
      let r : top % (2 * n) + 2 * m < 2 * n = omega arith in
      (rw k (digits_div (top / (2 * n)) r), rw k (digits_mod (top / (2 * n)) r))

  pub goes_aslant : m ≤ n → 2 * n - 2 * m ≤ carried n m half i → (gone n m half (i + 1) ≡ gone n m half i + 1) × (carried n m half (i + 1) ≡ carried n m half i - (2 * n - 2 * m))
  unfolding gone carried
  goes_aslant hm l =
      let e = div-add-mod' top (2 * n) in
      let t : 0 < 2 * n = omega arith in
      let b = mod-lt top t in
      let k : 2 * ((i + 1) * m) + half ≡ (top / (2 * n) + 1) * (2 * n) + (top % (2 * n) - (2 * n - 2 * m)) = omega (arith, e) in
      let r : top % (2 * n) - (2 * n - 2 * m) < 2 * n = omega (arith, b) in
      (rw k (digits_div (top / (2 * n) + 1) r), rw k (digits_mod (top / (2 * n) + 1) r))

  pub carried_less : carried n m half i < 2 * n
  unfolding carried
  carried_less = let t : 0 < 2 * n = omega arith in mod-lt top t

  pub gone_most : half < 2 * n → i ≤ n → gone n m half i ≤ m
  unfolding gone
  gone_most h hi =
      let e = div-add-mod' top (2 * n) in
      let im = mul-le-mul_right m hi in
      let l : 2 * n * gone n m half i < 2 * n * suc m = omega (arith, e, im) in
      let g : gone n m half i < suc m = lt_of_mul-lt-mul_left (2 * n) l in
      omega arith

-- ---- at the first pixel
module _ (n m half : ℕ) (p : 0 < n) (h : half ≤ n) where
  none : 2 * (0 * m) + half ≡ half
  none = omega arith

  fits : half < 2 * n
  fits = omega arith

  pub gone_first : gone n m half 0 ≡ 0
  unfolding gone
  gone_first = rw none (div-eq_of_lt fits)

  pub carried_first : carried n m half 0 ≡ half
  unfolding carried
  carried_first = rw none (mod-eq_of_lt fits)

-- ---- what is multiplied and divided fits in 32 bits
pub product_fits : (n k : ℕ) → n < 4096 → k ≤ n → n * k ≤ 16769025
product_fits n k few h =
    let a : n ≤ 4095 = omega arith in
    let b : k ≤ 4095 = omega arith in
    omega (arith, mul-le-mul a b)

pub top_fits : (n m half i : ℕ) → n < 4096 → m ≤ n → half ≤ n → i ≤ n → 2 * (i * m) + half < 4294967296
top_fits n m half i few hm h hi = let q = mul-le-mul hi hm in omega (arith, product_fits n n few (omega arith))
