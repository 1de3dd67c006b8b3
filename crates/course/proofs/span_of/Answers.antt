use Rattle.course.proofs.FieldLaws.{spans}
use Rattle.course.proofs.span_of.Goals as goal

pub returns : goal.returns
returns c =
    spans _ c.saturating_sub.ensures c.saturating_sub-2.ensures c.saturating_sub-3.ensures c.saturating_sub-4.ensures c.arrives-first.ensures c.arrives-end.ensures c.max.ensures c.min.ensures
