-- What the drawing of a cell asks and draws: where its corner may be, the pixel of a bit, and the pixels of a row.
use Rattle.std.specs.Prelude.{ℕ, ◌-◌, Bool, ◌||◌, List, [], ◌∷◌, get_or, ℤ, pos, negsuc, ◌+ℤ◌, ◌≤ℤ◌}
use Rattle.std.specs.Int.Signed.{lt_z}
use Rattle.definition.specs.Choice.{pick}
use Rattle.definition.specs.Units.{pixel}
use Rattle.definition.specs.Characters.{is_set, row_pixels}
use Rattle.definition.specs.declared.Pixels.{Pixels}
use Rattle.definition.specs.declared.Pixel.{Pixel}

-- the coordinates that a corner may have, so that those of its cell fit in 32 bits: every pixel of a position in range, and one character further
pub record Near (p : Pixels) : Type 0 where
  pub low : negsuc 2047 ≤ℤ p.0
  pub high : p.0 ≤ℤ pos 2055

-- whether a cell from this column on has none in the field
unfoldable pub aside : ℤ → Bool
aside x = lt_z x (negsuc 6) || lt_z (pos 511) x

-- bit k of a row, and row r of a cell: the definition's, one by one
abbrev pub bit_pixels : ℤ → ℤ → ℕ → ℕ → List Pixel
bit_pixels x y row k = pick (is_set row k) (pixel (x +ℤ pos k) y ∷ []) []

abbrev pub row_at : Pixel → List ℕ → ℕ → List Pixel
row_at corner cell r = row_pixels corner.x.0 (corner.y.0 +ℤ pos (7 - r)) (get_or cell r 0)
