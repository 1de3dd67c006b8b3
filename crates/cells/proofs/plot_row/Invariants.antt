use Prim.Native.Nat.{◌≤◌}
use mathlib.Core.Path.{◌≡◌}
use lib.IntN.{pos, ◌+ℤ◌}
use Rattle.definition.specs.Image.{ink_shape, ink_pen, left}
use Rattle.definition.specs.Characters.{gathered}
use Rattle.image.specs.Drawn.{drawn}
use Rattle.cells.specs.Cell.{bit_pixels}
use Rattle.cells.proofs.plot_row.Given as goal

abbrev pub invariant-loop-k : goal.invariant-loop-k
invariant-loop-k g l =
    (l.count ≤ l.k) × (left l.count l.image ≡ drawn (ink_shape l.brush.ink) (ink_pen l.brush.ink) l.initial.image (gathered (bit_pixels (g.C.Corner.at l.corner).x.0 ((g.C.Corner.at l.corner).y.0 +ℤ pos l.up) l.row) l.k))
