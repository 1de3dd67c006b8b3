use Rattle.vector.proofs.CoordinateLaws.{by_one_up, by_one_down}
use Rattle.vector.proofs.Axis.by_one.Goals as goal

pub returns-then-s-e : goal.returns-then-s-e
returns-then-s-e c = let x = c.args.self in by_one_up _ _ _ x.starts x.ends c.requires c.if-s-e.true

pub returns-else-s-e : goal.returns-else-s-e
returns-else-s-e c = let x = c.args.self in by_one_down _ _ _ x.starts x.ends c.requires c.if-s-e.false
