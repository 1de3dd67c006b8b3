use Rattle.std.proofs.lemmas.Result.{err_from_is_err_and}
use Rattle.definition.specs.Calls.{plain, given}
use Rattle.machine.proofs.StepLaws.{second_not_fetched, second_turned}
use Rattle.machine.proofs.second_word.Goals as goal

pub returns-in_default : goal.returns-in_default
returns-in_default c = second_not_fetched (given (plain _)) c.args.m c.next_word-got.ensures _ c.unwrap_err.ensures c.from.ensures

pub returns-in_err-second_refusal : goal.returns-in_err-second_refusal
returns-in_err-second_refusal c =
    let p = err_from_is_err_and c.from_residual.result c.from_residual.ensures.1 in
    rw (p.1, p.2) (second_turned (given (plain _)) c.args.m c.next_word-got.ensures c.in-Ok.is _ c.in_err-second_refusal.ensures)
