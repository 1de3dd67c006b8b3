use mathlib.Core.Path.{refl}
use Rattle.definition.specs.Calls.{plain, given}
use Rattle.definition.specs.declared.Item.TheVariants.{LongVector}
use Rattle.machine.proofs.StepLaws.{long_done, item_turned}
use Rattle.machine.proofs.long_vector.Goals as goal

pub returns-in-Ok : goal.returns-in-Ok
returns-in-Ok c =
    rw (← c.m.view_is) (long_done (given (plain _)) c.m.inside.machine _ _ c.second_word.ensures c.in-Ok.is _ c.long.ensures (rw (← c.m.view_is) at c.vector_by.ensures))

pub returns-in-Err : goal.returns-in-Err
returns-in-Err c =
    rw (← c.m.view_is) (item_turned (given (plain _)) c.m.inside.machine _ _ c.second_word.ensures (LongVector _) refl c.in-Err.is c.refused_for.ensures)
