use mathlib.Core.Path.{◌≡◌}
use Rattle.definition.specs.Image.{left, ink_shape, ink_pen}
use Rattle.definition.specs.Vector.{numbered}
use Rattle.image.specs.Drawn.{drawn}
use Rattle.course.specs.Course.{marks}
use Rattle.walk.specs.Walk.{standing}
use Rattle.walk.proofs.walk.Given as goal

abbrev pub invariant-loop : goal.invariant-loop
invariant-loop l =
    (l.at ≡ marks l.p l.first l.counter) × (left l.counter l.image ≡ drawn (ink_shape l.brush.ink) (ink_pen l.brush.ink) l.initial.image (numbered (λ k. standing (marks l.p l.first k)) l.counter))
