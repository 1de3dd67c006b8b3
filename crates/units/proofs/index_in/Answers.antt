use native.Mathlib.Omega.{arith}
use borrow.Author.Rules.{rules}
use Rattle.units.proofs.UnitLaws.{in_field_is, too_far, negative}
use Rattle.units.proofs.index_in.Goals as goal

pub returns-in-Ok : goal.returns-in-Ok
returns-in-Ok c = in_field_is _ _ (search rules) c.in-Ok.ensures (omega arith)

pub returns-in_default : goal.returns-in_default
returns-in_default c = too_far _ _ (search rules) c.in-Ok.ensures (omega arith)

pub returns-in_default-2 : goal.returns-in_default-2
returns-in_default-2 c = negative _ _ (search rules) c.in_default.ensures
