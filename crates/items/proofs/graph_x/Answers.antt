use mathlib.Core.Logic.{inr}
use Rattle.definition.specs.Step.{point_at}
use Rattle.items.proofs.ItemLaws.{set_leads, move_leads, move_leaves, goes_out, goes_to}
use Rattle.items.proofs.graph_x.Goals as goal

pub returns-in_default : goal.returns-in_default
returns-in_default c =
    let got = rw c.increment_of.ensures at c.moved_to.ensures in
    rw (← c.m.view_is) (goes_out _ _ _ _ _ _ (inr (move_leaves _ _ got c.in_default.is)) c.refused_for.ensures)

pub returns : goal.returns
returns c =
    let m = c.m.inside.machine in
    let grown = move_leads _ _ (rw c.increment_of.ensures at c.moved_to.ensures) c.in-Some.is in
    rw (← c.m.view_is) (goes_to _ _ _ _ _ (λ x y. point_at m x m.y) (set_leads _ _ c.requires) grown (rw (← c.m.view_is) at c.point-stores.ensures) c.placed.ensures)
