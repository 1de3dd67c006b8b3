use Rattle.cells.proofs.DrawLaws.{missed}
use Rattle.cells.proofs.AcrossCorner.misses.Goals as goal

pub returns : goal.returns
returns c = missed _ _ c.index_in.ensures c.is_none.ensures c.further.ensures
