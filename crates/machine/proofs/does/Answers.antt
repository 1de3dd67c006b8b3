use mathlib.Core.Path.{refl}
use Rattle.definition.specs.Calls.{plain, given}
use Rattle.machine.proofs.StepLaws.{obeyed, obeyed_no_op}
use Rattle.machine.proofs.does.Goals as goal

pub returns-in-SetMode : goal.returns-in-SetMode
returns-in-SetMode c = obeyed (given (plain _)) _ _ c.in-SetMode.is refl c.set_mode.ensures c.passed.ensures

pub returns-in-NoOp : goal.returns-in-NoOp
returns-in-NoOp c = obeyed_no_op (given (plain _)) _ _ c.in-NoOp.is c.passed-in-NoOp.ensures

pub returns-in-StatusA : goal.returns-in-StatusA
returns-in-StatusA c = obeyed (given (plain _)) _ _ c.in-StatusA.is refl c.status_a.ensures c.passed-in-StatusA.ensures

pub returns-in-Increment : goal.returns-in-Increment
returns-in-Increment c = obeyed (given (plain _)) _ _ c.in-Increment.is refl c.set_increment.ensures c.passed-in-Increment.ensures

pub returns-in-StatusC : goal.returns-in-StatusC
returns-in-StatusC c = obeyed (given (plain _)) _ _ c.in-StatusC.is refl c.status_c.ensures c.passed-in-StatusC.ensures
