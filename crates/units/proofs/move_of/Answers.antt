use Rattle.units.proofs.UnitLaws.{minus, plus}
use Rattle.units.proofs.move_of.Goals as goal

pub returns-then-minus : goal.returns-then-minus
returns-then-minus c = rw c.from-n.ensures (minus _ c.ranges.size.fits c.if-minus.true)

pub returns-else-minus : goal.returns-else-minus
returns-else-minus c = rw c.from-n.ensures (plus _ c.ranges.size.fits c.if-minus.false)
