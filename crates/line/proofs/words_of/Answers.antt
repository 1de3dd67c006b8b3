use Rattle.std.proofs.Common.{arith}
use Rattle.line.proofs.WordsLaws.{one_more, all_there}
use Rattle.line.proofs.words_of.Goals as goal

pub loop-i-preserved : goal.loop-i-preserved
loop-i-preserved c = one_more _ _ _ (omega arith) (omega arith) c.from_le_bytes.ensures c.loop-i.invariant

pub returns-clause-words_after : goal.returns-clause-words_after
returns-clause-words_after c = all_there _ _ _ c.loop-i.i c.as_chunks.ensures.front (omega arith) c.loop-i.invariant
