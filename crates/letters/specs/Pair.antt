-- The pixels of a word of two characters, from a set: the second is where the first has led.
use Rattle.std.specs.Prelude.{ℕ, List, ◌++◌, pos}
use Rattle.definition.specs.Units.{units, moved}
use Rattle.definition.specs.Step.{advance, character_at}
use Rattle.definition.specs.declared.Pixel.{Pixel}
use Rattle.definition.specs.declared.Machine.{Machine}

abbrev pub pair_pixels : List ℕ → Machine → ℕ → ℕ → List Pixel
pair_pixels set m first second = character_at set m m.x m.y first ++ character_at set m (moved m.x (units (pos advance))) m.y second
