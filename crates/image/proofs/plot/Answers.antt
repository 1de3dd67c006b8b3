use mathlib.Core.Path.{sym, ◌∙◌}
use native.Mathlib.Omega.{arith}
use Rattle.definition.specs.Image.{square}
use Rattle.units.proofs.AnswerLaws.{index_below}
use Rattle.image.proofs.DrawnLaws.{drawn_beside, drawn_above, drawn_in}
use Rattle.image.proofs.plot.Goals as goal

pub returns-in_default : goal.returns-in_default
returns-in_default c = drawn_beside square _ _ _ c.index_in.ensures c.in_default.is

pub returns-in_default-index_in : goal.returns-in_default-index_in
returns-in_default-index_in c = drawn_above square _ _ _ c.index_in.ensures c.in-Some.is c.index_in-2.ensures c.in_default-index_in.is

pub store-requires : goal.store-requires
store-requires c =
    let hx = index_below 512 _ (sym c.index_in.ensures ∙ c.in-Some.is) in
    let hy = index_below 512 _ (sym c.index_in-2.ensures ∙ c.in-Some-index_in.is) in
    omega arith

pub returns : goal.returns
returns c = drawn_in square _ _ _ c.index_in.ensures c.in-Some.is c.index_in-2.ensures c.in-Some-index_in.is c.store.ensures
