use mathlib.Core.Logic.{inl, inr}
use Rattle.items.proofs.ItemLaws.{move_leads, move_leaves}
use Rattle.items.proofs.end_of.Goals as goal

pub returns-in_err-x : goal.returns-in_err-x
returns-in_err-x c = rw c.from_residual.ensures (inl (move_leaves _ _ c.moved_to.ensures c.in_err-x.was))

pub returns-in_err-y : goal.returns-in_err-y
returns-in_err-y c = rw c.from_residual-in_err-y.ensures (inr (move_leaves _ _ c.moved_to-2.ensures c.in_err-y.was))

pub returns : goal.returns
returns c = (move_leads _ _ c.moved_to.ensures c.in_ok-x.was, move_leads _ _ c.moved_to-2.ensures c.in_ok-y.was)
