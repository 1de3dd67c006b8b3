use Prim.Native.Nat.{◌≤◌}
use mathlib.Core.Path.{◌≡◌}
use native.Mathlib.Omega.{arith}
use Rattle.definition.specs.Characters.{cell_pixels}
use Rattle.cells.proofs.DrawLaws.{drawn_none, row_at_most, cell_empty, cell_beside, cell_turn}
use Rattle.cells.proofs.plot_cell.Goals as goal
use Rattle.cells.proofs.plot_cell.Goals.{then-row-eq0-via-then-row-eq0, then-row-eq0-via-else-row-eq0+then-misses}

pub loop-i-init : goal.loop-i-init
loop-i-init g c = (omega arith, drawn_none _ _ _ _)

pub overflow_add-count : goal.overflow_add-count
overflow_add-count g c =
    let most : c.plot_row-count.result ≤ 8 = row_at_most _ _ _ _ _ _ c.plot_row-count.ensures in
    omega (arith, most)

pub loop-i-preserved-then-row-eq0 : goal.loop-i-preserved-then-row-eq0
loop-i-preserved-then-row-eq0 g c =
    elim c.then-row-eq0.branch [
      | then-row-eq0-via-then-row-eq0 w ↦ (omega arith, cell_empty _ _ _ _ _ _ c.loop-i.invariant.1 w.if-row-eq0.true)
      | then-row-eq0-via-else-row-eq0+then-misses w ↦ (omega arith, cell_beside _ _ _ _ _ _ c.loop-i.invariant.1 (w.misses.ensures w.if-misses.true))
    ]

pub loop-i-preserved : goal.loop-i-preserved
loop-i-preserved g c =
    let most : c.plot_row-count.result ≤ 8 = row_at_most _ _ _ _ _ _ c.plot_row-count.ensures in
    (omega (arith, most), cell_turn _ _ _ _ _ _ c.loop-i.invariant.1 c.plot_row-count.ensures)

pub returns : goal.returns
unfolding cell_pixels
returns g c =
    let e : c.loop-i.i ≡ 8 = omega arith in
    rw e at c.loop-i.invariant.1
