use mathlib.Core.Path.{sym, ◌∙◌}
use native.Mathlib.Omega.{arith}
use Rattle.definition.specs.Image.{ink_pen}
use Rattle.vector.proofs.WalkLaws.{vector_one}
use Rattle.walk.proofs.WalkLaws.{marks_small, drawn_none, drawn_walked}
use Rattle.walk.proofs.draw.Goals as goal

pub returns-then-c-eq0 : goal.returns-then-c-eq0
returns-then-c-eq0 c =
    let a = c.args in
    let e = sym c.course_of-c.ensures.long ∙ c.if-c-eq0.true in
    rw (← vector_one a.a a.b e) c.plot.ensures

pub returns-then-span : goal.returns-then-span
returns-then-span c =
    let a = c.args in
    drawn_none a.a a.b _ c.course_of-c.ensures (omega (arith, c.if-c-eq0.false)) c.span_of-span.ensures (ink_pen a.brush.ink) a.image.now c.if-span.true

pub walk-requires : goal.walk-requires
walk-requires c =
    let a = c.args in
    let s = c.span_of-span.ensures in
    let some = c.if-c-eq0.false in
    λ i l. rw (c.paces_of-paces.ensures, c.mark-first.ensures) (marks_small a.a a.b _ c.course_of-c.ensures (omega arith) s i (omega arith))

pub returns : goal.returns
returns c =
    let a = c.args in
    let l = c.if-span.false in
    let d = rw (c.paces_of-paces.ensures, c.mark-first.ensures) at c.walk.ensures in
    drawn_walked a.a a.b _ c.course_of-c.ensures (omega (arith, c.if-c-eq0.false)) c.span_of-span.ensures (ink_pen a.brush.ink) a.image.now (omega arith) d
