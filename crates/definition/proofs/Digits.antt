-- Laws of the digits of a byte, in any base: a digit put in its place stands there and leaves the others, and digits put in two places may be put in either order.
use Prim.Native.Nat.{ℕ, suc, ◌+◌, ◌-◌, ◌*◌, ◌/◌, ◌%◌, ◌^◌, ◌<◌}
use mathlib.Core.Path.{◌≡◌, sym, ap, ◌∙◌}
use native.Mathlib.Nat.{mod-lt, div-add-mod', mul-add-div, mul-add-mod_self_right, div-div-eq-div-mul, pow-suc, one-le-pow}
use native.Mathlib.Omega.{arith}
use native.Mathlib.Decide.{dec_lt}
use lib.Arith.{digits_div, digits_mod}
use lib.Pow.{pow-add}
use Rattle.definition.specs.Image.{digit, put_digit}

pub digit_same : (b k x v : ℕ) → v < b → digit b k (put_digit b k x v) ≡ v
unfolding digit put_digit
digit_same b k x v h = rw (digits_div (x / (b ^ k * b) * b + v) (mod-lt x (one-le-pow k b (omega arith)))) (digits_mod (x / (b ^ k * b)) h)

-- what stands above weight w * b * u does not touch the digit at weight w
low : (q w b u lo : ℕ) → 0 < w → (q * (w * b * u) + lo) / w % b ≡ lo / w % b
low q w b u lo h =
    let e : q * (w * b * u) + lo ≡ w * (q * u * b) + lo = omega arith in
    rw (e, mul-add-div h (q * u * b) lo, mul-add-mod_self_right (q * u) b (lo / w))

-- the weight of digit k by that of a lower digit j
weight : (b j k : ℕ) → j < k → b ^ k ≡ b ^ j * b * b ^ (k - suc j)
weight b j k h =
    let e : k ≡ suc j + (k - suc j) = omega arith in
    ap (λ (n : ℕ). b ^ n) e ∙ pow-add b (suc j) (k - suc j) ∙ rw (pow-suc b j)

digit_below : (b j k x v : ℕ) → 0 < b → j < k → digit b j (put_digit b k x v) ≡ digit b j x
unfolding digit put_digit
digit_below b j k x v hb h =
    let hw : 0 < b ^ j = one-le-pow j b hb in
    let split : x ≡ x / (b ^ k) * b ^ k + x % (b ^ k) = sym (div-add-mod' x (b ^ k)) in
    let put : ((x / (b ^ k * b) * b + v) * b ^ k + x % b ^ k) / b ^ j % b ≡ x % b ^ k / b ^ j % b = rw (weight b j k h) (low _ (b ^ j) b (b ^ (k - suc j)) _ hw) in
    let kept : (x / (b ^ k) * b ^ k + x % (b ^ k)) / b ^ j % b ≡ x % b ^ k / b ^ j % b = rw (weight b j k h) (low _ (b ^ j) b (b ^ (k - suc j)) _ hw) in
    put ∙ sym kept ∙ ap (λ (n : ℕ). n / b ^ j % b) (sym split)

digit_above : (b j k x v : ℕ) → v < b → k < j → digit b j (put_digit b k x v) ≡ digit b j x
unfolding digit put_digit
digit_above b j k x v hv h =
    let w = b ^ k in
    let u = b ^ (j - suc k) in
    let hw : 0 < b ^ k = one-le-pow k b (omega arith) in
    let up : ((x / (w * b) * b + v) * w + x % w) / (w * b) ≡ x / (w * b) =
    sym (div-div-eq-div-mul _ w b) ∙ rw (digits_div (x / (w * b) * b + v) (mod-lt x hw)) (digits_div (x / (w * b)) hv) in
    rw (weight b k j h, ← div-div-eq-div-mul ((x / (w * b) * b + v) * w + x % w) (w * b) u, up, div-div-eq-div-mul)

pub digit_other : (b j k x v : ℕ) → v < b → (j ≡ k → ⊥) → digit b j (put_digit b k x v) ≡ digit b j x
digit_other b j k x v hv ne = go (dec_lt j k)
  where
    go : Dec (j < k) → digit b j (put_digit b k x v) ≡ digit b j x
    go (yes p) = digit_below b j k x v (omega arith) p
    go (no p) = digit_above b j k x v hv (omega arith)

-- a byte with v in place of digit k: less the old digit's weight, plus the new one's
put_sum : (b k x v : ℕ) → put_digit b k x v + digit b k x * b ^ k ≡ x + v * b ^ k
unfolding digit put_digit
put_sum b k x v =
    let w = b ^ k in
    let e : x / (w * b) ≡ x / w / b = sym (div-div-eq-div-mul x w b) in
    let high = ap (λ (t : ℕ). t * w) (div-add-mod' (x / w) b) in
    rw e (omega (arith, div-add-mod' x w, high))

pub put_either : (b k l x v w : ℕ) → v < b → w < b → (k ≡ l → ⊥) → put_digit b l (put_digit b k x v) w ≡ put_digit b k (put_digit b l x w) v
put_either b k l x v w hv hw ne =
    omega (
      arith,
      put_sum b k x v,
      put_sum b l x w,
      put_sum b l (put_digit b k x v) w,
      put_sum b k (put_digit b l x w) v,
      ap (λ (t : ℕ). t * b ^ l) (digit_other b l k x v hv (λ e. ne (sym e))),
      ap (λ (t : ℕ). t * b ^ k) (digit_other b k l x w hw ne),
    )
