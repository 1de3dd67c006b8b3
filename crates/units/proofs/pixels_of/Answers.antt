use borrow.Author.Rules.{rules}
use Rattle.units.proofs.UnitLaws.{halved}
use Rattle.units.proofs.pixels_of.Goals as goal

pub returns : goal.returns
returns c = halved _ (search rules)
