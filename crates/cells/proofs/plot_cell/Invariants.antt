use Prim.Native.Nat.{◌*◌, ◌≤◌}
use mathlib.Core.Path.{◌≡◌}
use Rattle.definition.specs.Image.{ink_shape, ink_pen, left}
use Rattle.definition.specs.Characters.{gathered}
use Rattle.image.specs.Drawn.{drawn}
use Rattle.cells.specs.Cell.{row_at}
use Rattle.cells.proofs.plot_cell.Given as goal

abbrev pub invariant-loop-i : goal.invariant-loop-i
invariant-loop-i g l =
    (l.count ≤ 8 * l.i) × (left l.count l.image ≡ drawn (ink_shape l.brush.ink) (ink_pen l.brush.ink) l.initial.image (gathered (row_at (g.C.Corner.at l.corner) l.cell) l.i))
