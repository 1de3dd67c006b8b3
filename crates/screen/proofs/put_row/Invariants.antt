use Rattle.std.proofs.Common.{◌≡◌, take}
use Rattle.screen.specs.Screen.{row}
use Rattle.screen.proofs.put_row.Given as goal

abbrev pub invariant-loop-x : goal.invariant-loop-x
invariant-loop-x l = take l.x l.digits ≡ row l.image l.y l.x
