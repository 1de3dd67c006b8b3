use Prim.Native.Nat.{◌+◌, ◌≤◌}
use mathlib.Core.Path.{◌≡◌, refl, sym, ◌∙◌}
use native.Mathlib.Omega.{arith}
use Rattle.definition.specs.Image.{ink_shape, ink_pen, inside, stores}
use Rattle.definition.specs.Vector.{longer, nth, numbered}
use Rattle.image.specs.Drawn.{drawn}
use Rattle.image.proofs.DrawnLaws.{one_at_most}
use Rattle.vector.proofs.WalkLaws.{walk_turn, longer_is, vector_one, vector_walked}
use Rattle.vector.proofs.draw.Goals as goal

pub returns-then-line-eq0 : goal.returns-then-line-eq0
returns-then-line-eq0 c =
    let l = c.between-line in
    let n = longer_is l.ensures.start l.ensures.end l.result.steps in
    rw (← vector_one c.args.a c.args.b (sym n ∙ c.if-line-eq0.true)) c.plot.ensures

pub loop-i-init : goal.loop-i-init
unfolding drawn numbered inside stores
loop-i-init c = (omega arith, refl)

pub overflow_add-count : goal.overflow_add-count
overflow_add-count c =
    let at_most : c.plot-count.result ≤ 1 = one_at_most _ _ _ _ c.plot-count.ensures in
    let few = c.between-line.result.few in
    omega arith

pub loop-i-preserved : goal.loop-i-preserved
loop-i-preserved c =
    let at_most : c.plot-count.result ≤ 1 = one_at_most _ _ _ _ c.plot-count.ensures in
    let a = c.args in
    let l = c.between-line.ensures in
    (omega arith, walk_turn (ink_shape a.brush.ink) (ink_pen a.brush.ink) a.image.now (nth a.a a.b) c.loop-i.i c.loop-i.invariant.1 (rw (l.start, l.end) at c.nth.ensures) c.plot-count.ensures)

pub returns-else-line-eq0-2 : goal.returns-else-line-eq0-2
returns-else-line-eq0-2 c =
    let a = c.args in
    let l = c.between-line in
    let n : l.result.length ≡ longer a.a a.b = longer_is l.ensures.start l.ensures.end l.result.steps in
    let t = walk_turn (ink_shape a.brush.ink) (ink_pen a.brush.ink) a.image.now (nth a.a a.b) c.loop-i.i c.loop-i.invariant.1 (rw (l.ensures.start, l.ensures.end) at c.nth.ensures) c.plot-count.ensures in
    rw (← vector_walked a.a a.b (c.loop-i.i + 1) (λ z. c.if-line-eq0.false (n ∙ z)) (omega arith)) t
