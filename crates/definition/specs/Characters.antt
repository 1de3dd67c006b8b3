-- Characters: the set that serves, the cell of a code in it, and the pixels that a cell lights.
use Rattle.std.specs.Prelude.{ℕ, zero, suc, ◌-◌, ◌*◌, ◌/◌, ◌%◌, ◌^◌, Bool, List, [], ◌∷◌, ◌++◌, length, get_or, take, drop, eqb, ℤ, pos, ◌+ℤ◌}
use Rattle.definition.specs.Choice.{pick}
use Rattle.definition.specs.Units.{pixel}
use Rattle.definition.specs.declared.Pixel.{Pixel}

-- eight bytes for each of the codes 32 to 126
abbrev pub set_bytes : ℕ
set_bytes = 760

-- the set that serves: the lent one, or where that is empty the built-in one
unfoldable pub chosen : List ℕ → List ℕ → List ℕ
chosen lent built = pick (eqb (length lent) 0) built lent

unfoldable pub cell_of : List ℕ → ℕ → List ℕ
cell_of set c = take 8 (drop (8 * (c - 32)) set)

-- of a row, pixel k from the left: its highest bit is pixel 0
abbrev pub is_set : ℕ → ℕ → Bool
is_set row k = eqb (row / 2 ^ (7 - k) % 2) 1

-- f 0 to f (k - 1), one after the other
unfoldable pub gathered : (ℕ → List Pixel) → ℕ → List Pixel
gathered f zero = []
gathered f (suc k) = gathered f k ++ f k

-- a row from (x, y) to the right: a set bit lights its pixel, a clear one lights none
unfoldable pub row_pixels : ℤ → ℤ → ℕ → List Pixel
row_pixels x y row = gathered (λ k. pick (is_set row k) (pixel (x +ℤ pos k) y ∷ []) []) 8

-- a cell by its lower left corner: the top row first
unfoldable pub cell_pixels : Pixel → List ℕ → List Pixel
cell_pixels corner cell = gathered (λ r. row_pixels corner.x.0 (corner.y.0 +ℤ pos (7 - r)) (get_or cell r 0)) 8
