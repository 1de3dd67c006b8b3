use mathlib.Core.Path.{refl}
use Rattle.line.proofs.LineLaws.{fresh_run}
use Rattle.line.proofs.line_of_run.Goals as goal

pub returns : goal.returns
returns c = fresh_run _ c.run-ran.ensures c.fresh.ensures refl refl refl
