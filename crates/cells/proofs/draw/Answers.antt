use mathlib.Core.Path.{refl, sym, ◌∙◌}
use native.Mathlib.Omega.{arith}
use Rattle.units.proofs.AnswerLaws.{index_below}
use Rattle.cells.proofs.DrawLaws.{cell_aside, cell_inside}
use Rattle.cells.proofs.draw.Goals as goal

pub returns-then-is_aside : goal.returns-then-is_aside
returns-then-is_aside c = cell_aside _ _ _ _ _ refl c.is_aside.ensures c.if-is_aside.true

pub invariant_of-plot_cell : goal.invariant_of-plot_cell
invariant_of-plot_cell c =
    let hx = index_below _ _ (sym c.index_in.ensures ∙ c.in-Some.is) in
    let hy = index_below _ _ (sym c.index_in-2.ensures ∙ c.in-Some-index_in.is) in
    record { in_columns = omega (arith, hx); in_rows = omega (arith, hy) }

pub returns : goal.returns
returns c =
    let a = c.args in
    cell_inside _ _ _ a.corner a.cell.now _ c.index_in.ensures c.in-Some.is c.index_in-2.ensures c.in-Some-index_in.is c.plot_cell-2.ensures
