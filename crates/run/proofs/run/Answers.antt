use Rattle.run.proofs.RunLaws.{resumed}
use Rattle.run.proofs.run.Goals as goal

pub go_on-requires : goal.go_on-requires
go_on-requires c = let w = c.walk-first.ensures in ((w.off c.if-first.true).1, c.requires, w.counts)

pub returns-then-first : goal.returns-then-first
returns-then-first c = let off = c.walk-first.ensures.off c.if-first.true in resumed _ _ _ _ off.0 c.go_on.ensures off.2

pub returns : goal.returns
returns c = c.walk-first.ensures.done c.if-first.false
