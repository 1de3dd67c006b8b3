use Prim.Native.Nat.{◌≤◌}
use mathlib.Core.Path.{◌≡◌}
use native.Mathlib.Omega.{arith}
use Rattle.definition.specs.Characters.{row_pixels}
use Rattle.cells.proofs.DrawLaws.{drawn_none, bit_lit, bit_dark, one_at_most}
use Rattle.cells.proofs.plot_row.Goals as goal
use Rattle.cells.proofs.plot_row.Goals.{then-is_set, else-is_set}

pub loop-k-init : goal.loop-k-init
loop-k-init g c = (omega arith, drawn_none _ _ _ _)

pub overflow_add-count : goal.overflow_add-count
overflow_add-count g c =
    let most : c.plot-count.result ≤ 1 = one_at_most _ _ _ _ c.plot-count.ensures in
    omega (arith, most)

pub loop-k-preserved : goal.loop-k-preserved
loop-k-preserved g c =
    elim c.if-is_set.branch [
      | then-is_set w ↦
          let most : w.plot-count.result ≤ 1 = one_at_most _ _ _ _ w.plot-count.ensures in
          rw (w.image-is, w.count-is) (omega (arith, most), bit_lit _ _ _ _ _ c.args.row _ c.is_set.ensures c.loop-k.invariant.1 w.if-is_set.true w.plot-count.ensures)
      | else-is_set w ↦ rw (w.image-is, w.count-is) (omega arith, bit_dark _ _ _ _ _ c.args.row _ c.is_set.ensures c.loop-k.invariant.1 w.if-is_set.false)
    ]

pub returns : goal.returns
unfolding row_pixels
returns g c =
    let e : c.loop-k.k ≡ 8 = omega arith in
    rw e at c.loop-k.invariant.1
