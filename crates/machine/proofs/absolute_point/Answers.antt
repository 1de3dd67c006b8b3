use mathlib.Core.Path.{refl}
use Rattle.definition.specs.Calls.{plain, given}
use Rattle.definition.specs.declared.Item.TheVariants.{AbsolutePoint}
use Rattle.machine.proofs.StepLaws.{absolute_done, item_turned, coordinate_in}
use Rattle.machine.proofs.absolute_point.Goals as goal

pub absolute_point-requires : goal.absolute_point-requires
absolute_point-requires c = (c.requires, rw c.coordinate.ensures (coordinate_in _))

pub returns-in-Ok : goal.returns-in-Ok
returns-in-Ok c =
    rw (← c.m.view_is) (absolute_done (given (plain _)) c.m.inside.machine _ _ c.second_word.ensures c.in-Ok.is _ c.coordinate.ensures (rw (← c.m.view_is) at c.absolute_point.ensures))

pub returns-in-Err : goal.returns-in-Err
returns-in-Err c =
    rw (← c.m.view_is) (item_turned (given (plain _)) c.m.inside.machine _ _ c.second_word.ensures (AbsolutePoint _) refl c.in-Err.is c.refused_for.ensures)
