-- Given, so that a run of another budget is refused for the two budgets and not for a search that gives up.
use Rattle.run.proofs.one.Goals as goal

pub returns : goal.returns
returns c = c.run.ensures
