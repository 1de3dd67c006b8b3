use Rattle.vector.proofs.CoordinateLaws.{nth_across, nth_up}
use Rattle.vector.proofs.Line.nth.Goals as goal

pub returns-then-self : goal.returns-then-self
returns-then-self c = let l = c.args.self in nth_across _ _ _ l.axis l.steps c.if-self.true c.by_one.ensures c.rounded.ensures

pub returns-else-self : goal.returns-else-self
returns-else-self c = let l = c.args.self in nth_up _ _ _ l.axis l.steps c.if-self.false c.rounded-else-self.ensures c.by_one-else-self.ensures
