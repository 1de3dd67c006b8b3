use native.Mathlib.Omega.{arith}
use Rattle.line.proofs.LineLaws.{odd, too_long, ran}
use Rattle.line.proofs.line_of.Goals as goal

pub returns-then-bytes-ne0 : goal.returns-then-bytes-ne0
returns-then-bytes-ne0 c = odd _ (omega arith) c.refused.ensures

pub returns-then-bytes-gt65536 : goal.returns-then-bytes-gt65536
returns-then-bytes-gt65536 c = too_long _ (omega arith) c.refused-then-bytes-gt65536.ensures

pub returns : goal.returns
returns c = ran _ (omega arith) (omega arith) c.words_of-n.ensures.words_after c.line_of_run.ensures
