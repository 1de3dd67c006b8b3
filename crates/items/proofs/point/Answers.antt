use Rattle.items.proofs.ItemLaws.{dark, lit_point}
use Rattle.items.proofs.point.Goals as goal

pub returns-then-not-keeps : goal.returns-then-not-keeps
returns-then-not-keeps c = rw (← c.m.view_is) (dark _ _ _ c.keeps.ensures _ c.if-not-keeps.true)

pub returns : goal.returns
returns c = rw (← c.m.view_is) (lit_point _ _ _ c.keeps.ensures _ _ c.if-not-keeps.false c.pixel_at.ensures (rw (← c.m.view_is) at c.brush_of.ensures) c.plot.ensures)
