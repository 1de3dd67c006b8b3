use Rattle.screen.proofs.PictureLaws.{DownTo}
use Rattle.screen.proofs.put_rows.Given as goal

abbrev pub invariant-loop-y : goal.invariant-loop-y
invariant-loop-y l = DownTo l.initial.picture l.image l.picture l.y
