use mir.Facts.{to_z-of_z}
use Rattle.definition.specs.Machine.{in_range}
use Rattle.units.proofs.within.Goals as goal

pub returns-then-n-ge-LOWEST : goal.returns-then-n-ge-LOWEST
unfolding in_range
returns-then-n-ge-LOWEST c = let e = to_z-of_z c.ranges.n in rw (e, rw e at c.if-n-ge-LOWEST.true)

pub returns-else-n-ge-LOWEST : goal.returns-else-n-ge-LOWEST
unfolding in_range
returns-else-n-ge-LOWEST c = let e = to_z-of_z c.ranges.n in rw (e, rw e at c.if-n-ge-LOWEST.false)
