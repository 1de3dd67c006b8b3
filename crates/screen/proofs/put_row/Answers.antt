use Rattle.std.proofs.Common.{refl, arith}
use Rattle.screen.specs.Screen.{row}
use Rattle.screen.proofs.PictureLaws.{one_digit}
use Rattle.screen.proofs.put_row.Goals as goal

pub loop-x-init : goal.loop-x-init
unfolding row
loop-x-init c = refl

pub loop-x-preserved : goal.loop-x-preserved
loop-x-preserved c = one_digit _ _ c.loop-x.digits c.loop-x.x (omega arith) c.read.ensures c.loop-x.invariant
