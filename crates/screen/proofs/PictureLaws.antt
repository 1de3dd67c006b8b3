-- A picture that is put together from the front: a digit after others of its row, and a row after those above it.
use Prim.Native.Nat.{ℕ, suc, ◌+◌, ◌-◌, ◌*◌, ◌<◌, ◌≤◌}
use mathlib.Core.List.{List, ◌++◌, append-nil, append_assoc}
use mathlib.Core.Path.{◌≡◌, refl, ap, ◌∙◌}
use native.Mathlib.Numerals.{add-one}
use native.Mathlib.Omega.{arith}
use lib.ListN.{length, set, take}
use lib.Seq.{take_all, take_at, take-suc-set}
use Rattle.definition.specs.Image.{square, digit_at}
use Rattle.screen.specs.Screen.{header, row, rows, pgm}

-- a digit after the first x of row y
pub one_digit : (image : List ℕ) (y : ℕ) (digits : List ℕ) (x : ℕ) {v : ℕ} → x < length digits → v ≡ digit_at square image x y → take x digits ≡ row image y x
    → take (x + 1) (set digits x v) ≡ row image y (x + 1)
unfolding row
one_digit image y digits x {v} h e so = rw (add-one x, take-suc-set digits x v h, so, e) refl

-- what is there up to a place, and the rows below y, are the whole
module _ (image picture whole : List ℕ) where
  row_more : (after : List ℕ) {at place next y z : ℕ} → at ≡ place → next ≡ place + 512 → y ≡ suc z
      → take (place + 512) after ≡ take place picture ++ row image z 512
      → take at picture ++ rows image y ≡ whole → take next after ++ rows image z ≡ whole
  unfolding rows
  row_more after {place = place} {z = z} here on above e so =
      rw (on, e) (append_assoc (take place picture) (row image z 512) (rows image z) ∙ (rw (here, above) at so))

  rows_all : {at y : ℕ} → y ≡ 0 → length picture ≤ at → take at picture ++ rows image y ≡ whole → picture ≡ whole
  unfolding rows
  rows_all {at} e h so = rw (e, take_all at picture h, append-nil picture) at so

-- the rows from y up are there, the top one first
abbrev pub DownTo : List ℕ → List ℕ → List ℕ → ℕ → Type 0
DownTo before image picture y = take (13 + 512 * (512 - y)) picture ++ rows image y ≡ take 13 before ++ rows image 512

module _ (before image picture : List ℕ) where
  pub one_row : (after : List ℕ) {place : ℕ} (y : ℕ) → 0 < y → y ≤ 512 → place ≡ 13 + 512 * (511 - (y - 1))
      → take (place + 512) after ≡ take place picture ++ row image (y - 1) 512
      → DownTo before image picture y → DownTo before image after (y - 1)
  one_row after {place} y h k p e so =
      let here : 13 + 512 * (512 - y) ≡ place = omega arith in
      let on : 13 + 512 * (512 - (y - 1)) ≡ place + 512 = omega arith in
      let above : y ≡ suc (y - 1) = omega arith in
      row_more image picture _ after here on above e so

  pub no_row : (y : ℕ) → y ≡ 0 → length picture ≡ 262157 → DownTo before image picture y → picture ≡ take 13 before ++ rows image 512
  no_row y e h so =
      let end : length picture ≤ 13 + 512 * (512 - y) = omega arith in
      rows_all image picture _ e end so

pub whole : (image rest picture : List ℕ) {between : List ℕ} → between ≡ header ++ rest → picture ≡ take 13 between ++ rows image 512 → picture ≡ pgm image
unfolding pgm
whole image rest picture b e =
    let front = ap (λ (l : List ℕ). take 13 l) b ∙ take_at header rest 13 refl in
    e ∙ ap (λ (l : List ℕ). l ++ rows image 512) front
