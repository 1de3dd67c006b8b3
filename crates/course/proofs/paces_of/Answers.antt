use Rattle.std.proofs.Common.{arith}
use Rattle.course.proofs.MarkLaws.{paces_are}
use Rattle.course.proofs.paces_of.Goals as goal

pub returns : goal.returns
returns c = let f = c.args.c.sound.few in paces_are _ c.wide-more.ensures c.wide-limit.ensures (omega (arith, c.wide-limit.ensures))
