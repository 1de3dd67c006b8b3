-- How many pixels a bit, a row and a cell have at most.
use Prim.Native.Nat.{ℕ, zero, suc, ◌*◌, ◌≤◌}
use mathlib.Core.Bool.{Bool, true, false}
use mathlib.Core.List.{List, [], ◌∷◌}
use native.Mathlib.Omega.{arith}
use lib.ListN.{length, length-append}
use lib.IntN.{ℤ}
use Rattle.definition.specs.Choice.{pick}
use Rattle.definition.specs.Characters.{is_set, gathered, row_pixels, cell_pixels}
use Rattle.definition.specs.declared.Pixel.{Pixel}

gathered_few : (f : ℕ → List Pixel) (n : ℕ) → ((k : ℕ) → length (f k) ≤ n) → (k : ℕ) → length (gathered f k) ≤ n * k
unfolding gathered
gathered_few f n h zero = omega arith
gathered_few f n h (suc k) = omega (arith, length-append (gathered f k) (f k), gathered_few f n h k, h k)

pub bit_few : (on : Bool) (p : Pixel) → length (pick on (p ∷ []) []) ≤ 1
bit_few true p = omega arith
bit_few false p = omega arith

pub row_few : (x y : ℤ) (row : ℕ) → length (row_pixels x y row) ≤ 8
unfolding row_pixels
row_few x y row = gathered_few _ 1 (λ k. bit_few (is_set row k) _) 8

pub cell_few : (corner : Pixel) (cell : List ℕ) → length (cell_pixels corner cell) ≤ 64
unfolding cell_pixels
cell_few corner cell = gathered_few _ 8 (λ r. row_few _ _ _) 8
