use Rattle.definition.proofs.StepLaws.{ranges}
use Rattle.items.proofs.brush_of.Goals as goal

pub invariant_of-result : goal.invariant_of-result
invariant_of-result c = record { fits = ((ranges _).0 c.m.invariant).value }
