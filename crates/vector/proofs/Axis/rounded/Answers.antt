use Rattle.vector.proofs.CoordinateLaws.{lowered_fits, rounded_is}
use Rattle.vector.proofs.Axis.rounded.Goals as goal

-- The check finds this one at its limit alone.
pub overflow_sub-result : goal.overflow_sub-result
overflow_sub-result c =
    let s = c.raised.ensures in
    let e = c.raised-2.ensures in
    lowered_fits c.args.self.start.0 c.args.self.end.0 s.0 e.0 c.requires.0 c.requires.2 s.1 e.1 c.requires.1 c.nearest-q.ensures

pub returns : goal.returns
returns c =
    let s = c.raised.ensures in
    let e = c.raised-2.ensures in
    rounded_is _ _ s.0 e.0 c.requires.0 c.requires.2 s.1 e.1 c.requires.1 c.nearest-q.ensures
