use Rattle.vector.proofs.ReachLaws.{reaches}
use Rattle.definition.proofs.StepLaws.{ranges}
use Rattle.items.proofs.ItemLaws.{dark, lit_line}
use Rattle.items.proofs.line.Goals as goal

pub returns-then-not-keeps : goal.returns-then-not-keeps
returns-then-not-keeps c = rw (← c.m.view_is) (dark _ _ _ c.keeps.ensures _ c.if-not-keeps.true)

pub draw-requires : goal.draw-requires
draw-requires c =
    let h = c.requires in
    let m = (ranges _).0 c.m.invariant in
    (rw c.pixel_at-from.ensures (reaches _ _ m.x m.y), rw c.pixel_at.ensures (reaches _ _ h.0 h.1))

pub returns : goal.returns
returns c =
    let a = c.args in
    rw (← c.m.view_is) (lit_line c.m.inside.machine _ _ c.keeps.ensures a.x a.y c.if-not-keeps.false c.pixel_at-from.ensures c.pixel_at.ensures (rw (← c.m.view_is) at c.brush_of.ensures) c.draw.ensures)
