use mathlib.Core.Path.{subst}
use Rattle.items.specs.Ends.{Ends}
use Rattle.items.specs.Goes.{vector_to}
use Rattle.items.proofs.ItemLaws.{goes_out, goes_to}
use Rattle.items.proofs.vector_by.Goals as goal

pub returns-in_default : goal.returns-in_default
returns-in_default c = rw (← c.m.view_is) (goes_out _ _ _ _ _ _ (subst (Ends c.m.inside.machine c.args.dx c.args.dy) c.in_default.is c.end_of.ensures) c.refused_for.ensures)

pub returns : goal.returns
returns c =
    let l = subst (Ends c.m.inside.machine c.args.dx c.args.dy) c.in-Some.is c.end_of.ensures in
    rw (← c.m.view_is) (goes_to _ _ _ _ _ (vector_to c.m.inside.machine) l.0 l.1 (rw (← c.m.view_is) at c.line-stores.ensures) c.placed.ensures)
