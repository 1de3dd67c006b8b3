-- What the functions of this crate answer where the definition has a test: a move and its range, a pixel's coordinate and the field.
use Rattle.std.specs.Prelude.{ℕ, nat_abs, Option, Some, None}
use Rattle.definition.specs.Choice.{pick}
use Rattle.definition.specs.Units.{moved}
use Rattle.definition.specs.Image.{below}
use Rattle.definition.specs.Machine.{in_range}
use Rattle.definition.specs.declared.Units.{Units}
use Rattle.definition.specs.declared.Pixels.{Pixels}

unfoldable pub moved_to : Units → Units → Option Units
moved_to u by = pick (in_range (moved u by)) (Some (moved u by)) None

unfoldable pub index_in : ℕ → Pixels → Option ℕ
index_in n p = pick (below n p.0) (Some (nat_abs p.0)) None
