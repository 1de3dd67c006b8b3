use Rattle.std.proofs.Common.{arith}
use Rattle.course.proofs.FieldLaws.{arrives_never, arrives_at}
use Rattle.course.proofs.arrives.Goals as goal

pub returns-then-m-k : goal.returns-then-m-k
returns-then-m-k c = arrives_never _ _ _ _ c.requires.0 c.requires.3 c.if-m-k.true

pub returns : goal.returns
returns c = arrives_at _ _ _ _ c.requires.0 c.requires.3 (omega arith) (omega arith)
