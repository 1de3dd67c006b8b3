-- Where each pixel stands in a picture, and how long a picture is.
use Prim.Native.Nat.{ℕ, zero, suc, ◌+◌, ◌-◌, ◌*◌, ◌<◌}
use mathlib.Core.Bool.{Bool, true, false}
use mathlib.Core.List.{List, [], ◌∷◌, ◌++◌}
use mathlib.Core.Path.{◌≡◌, refl, ◌∙◌}
use native.Mathlib.Omega.{arith}
use lib.Dec.{leb}
use lib.ListN.{length, get_or, length-append, get_or-append}
use lib.Seq.{get_or-append-add, get_or_at}
use borrow.Author.Tests.{leb-true, leb-false}
use Rattle.definition.specs.Image.{square, digit_at}
use Rattle.screen.specs.Screen.{header, row, rows, pgm}

module _ (image : List ℕ) where
  row_length : (y n : ℕ) → length (row image y n) ≡ n
  unfolding row
  row_length y zero = refl
  row_length y (suc n) = rw (length-append (row image y n) (digit_at square image n y ∷ [])) (omega (arith, row_length y n))

  rows_length : (n : ℕ) → length (rows image n) ≡ 512 * n
  unfolding rows
  rows_length zero = refl
  rows_length (suc n) = rw (length-append (row image n 512) (rows image n)) (omega (arith, row_length n 512, rows_length n))

  pub length_of_all : length (pgm image) ≡ 262157
  unfolding pgm
  length_of_all = rw (length-append header (rows image 512)) (omega (arith, rows_length 512))

  row_at : (y n x : ℕ) → x < n → get_or (row image y n) x 0 ≡ digit_at square image x y
  unfolding row
  row_at y zero x h = absurd (omega arith)
  row_at y (suc n) x h = go (λ k. row_at y n x k) (leb n x) refl
    where
      go : (x < n → get_or (row image y n) x 0 ≡ digit_at square image x y) → (t : Bool) → leb n x ≡ t
          → get_or (row image y n ++ (digit_at square image n y ∷ [])) x 0 ≡ digit_at square image x y
      go before true e =
          let same : x ≡ n = omega (arith, leb-true n x e) in
          rw same (get_or_at (row image y n) (digit_at square image n y) [] 0 n (row_length y n))
      go before false e =
          let less = leb-false n x e in
          get_or-append (row image y n) (digit_at square image n y ∷ []) 0 x (omega (arith, row_length y n)) ∙ before (omega arith)

  rows_at : (n x y : ℕ) → x < 512 → y < n → get_or (rows image n) (512 * (n - suc y) + x) 0 ≡ digit_at square image x y
  unfolding rows
  rows_at zero x y h k = absurd (omega arith)
  rows_at (suc n) x y h k = go (λ b. rows_at n x y h b) (leb n y) refl
    where
      go : (y < n → get_or (rows image n) (512 * (n - suc y) + x) 0 ≡ digit_at square image x y) → (t : Bool) → leb n y ≡ t
          → get_or (row image n 512 ++ rows image n) (512 * (suc n - suc y) + x) 0 ≡ digit_at square image x y
      go below true e =
          let same : y ≡ n = omega (arith, leb-true n y e) in
          let first : 512 * (suc n - suc y) + x ≡ x = omega (arith, leb-true n y e) in
          rw (first, same) (get_or-append (row image n 512) (rows image n) 0 x (omega (arith, row_length n 512)) ∙ row_at n 512 x h)
      go below false e =
          let less = leb-false n y e in
          let later : 512 * (suc n - suc y) + x ≡ length (row image n 512) + (512 * (n - suc y) + x) = omega (arith, row_length n 512) in
          rw later (get_or-append-add (row image n 512) (rows image n) (512 * (n - suc y) + x) 0 ∙ below (omega arith))

  pub pixel_at_is : (x y : ℕ) → x < 512 → y < 512 → get_or (pgm image) (13 + (512 * (511 - y) + x)) 0 ≡ digit_at square image x y
  unfolding pgm
  pixel_at_is x y h k =
      let place : 511 - y ≡ 512 - suc y = omega arith in
      get_or-append-add header (rows image 512) (512 * (511 - y) + x) 0 ∙ rw place (rows_at 512 x y h k)
