use Rattle.std.proofs.Common.{◌∙◌, arith}
use Rattle.course.proofs.AxisLaws.{down_least, course_across, course_upright}
use Rattle.course.proofs.between.Goals as goal

pub along-requires : goal.along-requires
along-requires c = down_least _ _ _ _ c.axis_of-upright.ensures c.if-upright-across.true

pub along-requires-else-upright-across : goal.along-requires-else-upright-across
along-requires-else-upright-across c = down_least _ _ _ _ c.axis_of-across.ensures (omega (arith, c.if-upright-across.false))

pub returns-then-upright-across : goal.returns-then-upright-across
returns-then-upright-across c =
    c.along.ensures ∙ course_across _ _ _ _ c.axis_of-across.ensures c.axis_of-upright.ensures (rw (c.wide.ensures, c.wide-2.ensures)) c.if-upright-across.true

pub returns-else-upright-across : goal.returns-else-upright-across
returns-else-upright-across c =
    c.along-else-upright-across.ensures ∙ course_upright _ _ _ _ c.axis_of-across.ensures c.axis_of-upright.ensures (rw (c.wide.ensures, c.wide-2.ensures)) c.if-upright-across.false
