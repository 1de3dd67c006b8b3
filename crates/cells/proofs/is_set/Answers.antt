-- Given, so that the mirrored bit is refused for the bit and not for a search that gives up.
use mathlib.Core.Path.{refl}
use Rattle.cells.proofs.is_set.Goals as goal

pub returns : goal.returns
returns c = refl
