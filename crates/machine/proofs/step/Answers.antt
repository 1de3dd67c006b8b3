use Rattle.definition.specs.Calls.{lending, plain, given}
use Rattle.machine.proofs.StepLaws.{step_refused, order_alone, done_order, done_item, item_drawable}
use Rattle.machine.proofs.step.Goals as goal

pub draws-requires : goal.draws-requires
draws-requires c = item_drawable (given (plain c.args.file.now)) c.m.inside.machine c.instruction.ensures c.in-Ok-Draws.is c.in-Ok-Draws.field-0-is

pub returns-in-Ok-Does : goal.returns-in-Ok-Does
returns-in-Ok-Does c =
    rw (← c.m.view_is) (done_order _ (given (lending _ _)) c.m.inside.machine _ c.instruction.ensures c.in-Ok-Does.is c.in-Ok-Does.field-0-is (given (plain _)) (order_alone _ _ _ _) c.does.ensures)

pub returns-in-Ok-Draws : goal.returns-in-Ok-Draws
returns-in-Ok-Draws c =
    rw (← c.m.view_is) (done_item _ (given (lending _ _)) c.m.inside.machine _ c.instruction.ensures c.in-Ok-Draws.is c.in-Ok-Draws.field-0-is (rw (← c.m.view_is) at c.draws.ensures))

pub returns-in-Err : goal.returns-in-Err
returns-in-Err c = rw (← c.m.view_is) (step_refused _ (given (lending _ _)) c.m.inside.machine _ c.instruction.ensures c.in-Err.is c.refused_for.ensures)
