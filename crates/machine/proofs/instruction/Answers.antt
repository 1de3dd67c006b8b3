use Rattle.std.proofs.lemmas.Result.{err_from_is_err_and}
use Rattle.definition.specs.Calls.{plain, given}
use Rattle.machine.proofs.StepLaws.{first_not_fetched, first_turned, first_taken}
use Rattle.machine.proofs.instruction.Goals as goal

pub returns-in_default : goal.returns-in_default
returns-in_default c = first_not_fetched (given (plain _)) c.args.m c.fetch-got.ensures _ c.unwrap_err.ensures c.from.ensures

pub returns : goal.returns
returns c = first_taken (given (plain _)) c.args.m c.fetch-got.ensures c.in-Ok.is c.in_ok-first_refusal.ensures c.decode.ensures

pub returns-in_err-first_refusal : goal.returns-in_err-first_refusal
returns-in_err-first_refusal c =
    let p = err_from_is_err_and c.from_residual.result c.from_residual.ensures.1 in
    rw (p.1, p.2) (first_turned (given (plain _)) c.args.m c.fetch-got.ensures c.in-Ok.is _ c.in_err-first_refusal.ensures)
