use native.Mathlib.Omega.{arith}
use Rattle.screen.proofs.ScreenLaws.{odd, too_long, ran}
use Rattle.screen.proofs.draw.Goals as goal

pub returns-then-bytes-ne0 : goal.returns-then-bytes-ne0
returns-then-bytes-ne0 c = odd _ _ _ _ c.clear.ensures (omega arith) c.from.ensures (omega arith)

pub returns-then-bytes-gt65536 : goal.returns-then-bytes-gt65536
returns-then-bytes-gt65536 c = too_long _ _ _ _ c.clear.ensures (omega arith) c.from-then-bytes-gt65536.ensures (omega arith)

pub returns : goal.returns
returns c = ran _ _ _ _ c.clear.ensures (omega arith) (omega arith) (omega arith) c.words_of-n.ensures.words_after c.fresh.ensures c.run-ran.ensures
