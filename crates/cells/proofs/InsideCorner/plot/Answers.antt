use native.Mathlib.Omega.{arith}
use Rattle.cells.proofs.DrawLaws.{one_stored}
use Rattle.cells.proofs.InsideCorner.plot.Goals as goal

pub returns : goal.returns
returns c = one_stored _ _ _ (omega (arith, c.args.self.in_columns, c.requires)) (omega (arith, c.args.self.in_rows, c.requires)) c.store.ensures
