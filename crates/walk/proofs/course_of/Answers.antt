use Rattle.walk.proofs.CourseLaws.{follows}
use Rattle.walk.proofs.course_of.Goals as goal

pub returns : goal.returns
returns c =
    let x = c.raised.ensures in
    let y = c.raised-2.ensures in
    let x1 = c.raised-3.ensures in
    let y1 = c.raised-4.ensures in
    rw c.course_of.ensures (follows c.args.a c.args.b x.0 y.0 x1.0 y1.0 x.1 y.1 x1.1 y1.1)
