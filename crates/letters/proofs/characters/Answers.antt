use Prim.Native.Nat.{ℕ}
use mathlib.Core.List.{List}
use mathlib.Core.Logic.{inl}
use mathlib.Core.Path.{◌≡◌, ap}
use native.Mathlib.Omega.{arith}
use lib.ListN.{length}
use Rattle.definition.specs.Characters.{chosen}
use Rattle.definition.specs.BuiltIn.{built_in}
use Rattle.definition.proofs.StepLaws.{ranges}
use Rattle.cells.specs.Lent.{lent}
use Rattle.items.proofs.ItemLaws.{move_leads, move_leaves, goes_to}
use Rattle.letters.specs.Pair.{pair_pixels}
use Rattle.letters.proofs.LetterLaws.{half_way, stay_leads, serving, word_refused, word_put_off, word_done}
use Rattle.letters.proofs.characters.Goals as goal

pub returns-in_default : goal.returns-in_default
returns-in_default c = rw (← c.m.view_is) (word_refused _ _ _ _ _ (inl (move_leaves _ _ c.moved_to.ensures c.in_default.is)) c.refused_for.ensures)

pub returns-in_default-set : goal.returns-in_default-set
returns-in_default-set c =
    rw (← c.m.view_is)
    (word_put_off _ _ _ _ _ (move_leads _ _ c.moved_to.ensures c.in-Some.is) (stay_leads _ ((ranges _).0 c.m.invariant).y)
    (ap (λ s. length (lent s)) c.in_default-set.is) c.put_off.ensures)

pub both-stores-requires : goal.both-stores-requires
both-stores-requires c =
    let w = move_leads _ _ c.moved_to.ensures c.in-Some.is in
    rw (← c.m.view_is) (half_way _ ((ranges _).0 c.m.invariant).x (rw w.to w.within))

pub returns : goal.returns
returns c =
    let a = c.args in
    let there = ap lent c.in-Some-set.is in
    let some : length (lent a.set) ≡ 0 → ⊥ = λ z. omega (arith, z, c.both-stores.ensures.whole, ap length there) in
    let draws : List ℕ → _ = λ set. pair_pixels set c.m.inside.machine a.first.value a.second.value in
    rw (← c.m.view_is)
    (word_done _ _ _ _ _ some
    (goes_to _ _ _ _ _ (λ x y. draws (chosen (lent a.set) built_in)) (move_leads _ _ c.moved_to.ensures c.in-Some.is) (stay_leads _ ((ranges _).0 c.m.invariant).y)
    (rw (serving _ some, there) (rw (← c.m.view_is) at c.both-stores.ensures.stores)) c.placed.ensures))
