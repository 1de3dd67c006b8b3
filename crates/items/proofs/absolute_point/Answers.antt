use Rattle.definition.specs.Step.{point_at}
use Rattle.items.proofs.ItemLaws.{set_leads, goes_to}
use Rattle.items.proofs.absolute_point.Goals as goal

pub returns : goal.returns
returns c =
    rw (← c.m.view_is) (goes_to _ _ _ _ _ (point_at c.m.inside.machine) (set_leads _ _ c.requires.0) (set_leads _ _ c.requires.1) (rw (← c.m.view_is) at c.point.ensures) c.placed.ensures)
