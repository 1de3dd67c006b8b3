use Rattle.definition.specs.Calls.{plain, given}
use Rattle.machine.proofs.StepLaws.{jump_ends, jump_done}
use Rattle.machine.proofs.jump.Goals as goal

pub returns-in_default : goal.returns-in_default
returns-in_default c = jump_ends (given (plain _)) _ c.next_word-got.ensures _ c.unwrap_err.ensures c.from.ensures c.refused_for.ensures

pub returns : goal.returns
returns c = jump_done (given (plain _)) _ c.next_word-got.ensures c.in-Ok.is c.completed.ensures
