-- Characters by the bits of their cells: which pixels a cell lights, and where the two cells of a word stand.
use Rattle.std.specs.Prelude.{ℕ, ◌-◌, ◌<◌, ◌/◌, ◌%◌, ◌^◌, List, ◌++◌, true, ◌≡◌, ◌⊎◌, get_or, pos, ◌+ℤ◌}
use Rattle.definition.specs.Units.{units, pixel}
use Rattle.definition.specs.Image.{pixel_at}
use Rattle.definition.specs.Words.{first_code, second_code}
use Rattle.definition.specs.Characters.{cell_of, cell_pixels}
use Rattle.definition.specs.Machine.{shape_of}
use Rattle.definition.specs.Step.{Given, refusal}
use Rattle.definition.specs.declared.Pixel.{Pixel}
use Rattle.definition.specs.declared.Machine.{Machine}
use Rattle.demands.specs.Conditions.{Off, word}

-- a pixel is in row r from the top and column k from the left of the cell that stands on this corner, its lower left one, and bit 7 - k of byte r is set
pub record LitIn (corner : Pixel) (cell : List ℕ) (p : Pixel) : Type 0 where
  pub r : ℕ
  pub k : ℕ
  pub row : r < 8
  pub column : k < 8
  pub place : p ≡ pixel (corner.x.0 +ℤ pos k) (corner.y.0 +ℤ pos (7 - r))
  pub bit_set : get_or cell r 0 / 2 ^ (7 - k) % 2 ≡ 1

-- the corners of a word's two cells: the pixel of the position, and that of 16 units further right
abbrev pub first_corner : Machine → Pixel
first_corner m = pixel_at (shape_of m) m.x m.y

abbrev pub second_corner : Machine → Pixel
second_corner m = pixel_at (shape_of m) (units (m.x.0 +ℤ pos 16)) m.y

-- a pixel is lit by the cell of either code of the word at the counter, in the set that is given
abbrev pub ByCharacters : Given → Machine → Pixel → Type 0
ByCharacters g m p =
    LitIn (first_corner m) (cell_of g.set (first_code (word g m))) p ⊎ LitIn (second_corner m) (cell_of g.set (second_code (word g m))) p

-- a completed word of two characters, with write on, stands at the machine's counter
pub record DrawnCharacters (g : Given) (m : Machine) : Type 0 where
  pub completes : refusal g m ≡ 0
  pub writes : m.write ≡ true
  pub data_word : Off 15 (word g m)
  pub mode : m.mode ≡ 0

-- the pixels of both cells, in this set, the first one's first
abbrev pub characters : List ℕ → Machine → ℕ → List Pixel
characters set m w = cell_pixels (first_corner m) (cell_of set (first_code w)) ++ cell_pixels (second_corner m) (cell_of set (second_code w))
