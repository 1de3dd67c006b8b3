use Rattle.course.proofs.AxisLaws.{sound}
use Rattle.course.proofs.course_of.Goals as goal

pub invariant_of-result : goal.invariant_of-result
invariant_of-result c = let h = c.requires in record { sound = rw c.between.ensures (sound _ _ _ _ h.0 h.1 h.2 h.3) }
