use Rattle.units.proofs.UnitLaws.{both_halved}
use Rattle.units.proofs.pixel_at.Goals as goal

pub returns : goal.returns
returns c = both_halved _ _ c.pixels_of.ensures c.pixels_of-2.ensures
