use mathlib.Core.Path.{refl, ap}
use Rattle.definition.specs.Image.{ink_shape, ink_pen, inside, stores}
use Rattle.definition.specs.Vector.{numbered}
use Rattle.image.specs.Drawn.{drawn}
use Rattle.course.specs.Course.{marks}
use Rattle.walk.specs.Walk.{standing}
use Rattle.vector.proofs.WalkLaws.{walk_turn}
use Rattle.walk.proofs.WalkLaws.{store_drawn, marks_more}
use Rattle.walk.proofs.walk.Goals as goal

pub loop-init : goal.loop-init
unfolding drawn numbered inside stores marks
loop-init c = (refl, refl)

pub loop-preserved : goal.loop-preserved
loop-preserved c =
    let a = c.args in
    let i = c.loop.counter in
    let is = c.loop.invariant.0 in
    let st = store_drawn (ink_pen a.brush.ink) c.loop.image c.loop.at (rw (← is) at (c.requires i c.loop-test.true)) c.store_at.ensures in
    (marks_more _ _ _ is c.step-at.ensures, walk_turn (ink_shape a.brush.ink) (ink_pen a.brush.ink) a.image.now (λ k. standing (marks a.p a.first k)) i c.loop.invariant.1 (ap standing is) st)
