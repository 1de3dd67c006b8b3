use Prim.Native.Nat.{◌≤◌}
use mathlib.Core.Path.{◌≡◌}
use Rattle.definition.specs.Image.{ink_shape, ink_pen, left}
use Rattle.definition.specs.Vector.{nth, numbered}
use Rattle.image.specs.Drawn.{drawn}
use Rattle.vector.proofs.draw.Given as goal

abbrev pub invariant-loop-i : goal.invariant-loop-i
invariant-loop-i l =
    (l.count ≤ l.i) × (left l.count l.image ≡ drawn (ink_shape l.brush.ink) (ink_pen l.brush.ink) l.initial.image (numbered (nth l.fn.a l.fn.b) l.i))
