use mathlib.Core.Path.{refl}
use native.Mathlib.Omega.{arith}
use borrow.Author.Tests.{not-true, not-false}
use Rattle.definition.proofs.StepLaws.{ranges}
use Rattle.items.proofs.ItemLaws.{dark}
use Rattle.letters.proofs.LetterLaws.{letter_at_most, both_lit}
use Rattle.letters.proofs.both.Goals as goal

pub returns-then-not-here-clause-stores : goal.returns-then-not-here-clause-stores
returns-then-not-here-clause-stores c = rw (← c.m.view_is) (dark _ _ _ refl _ (not-true _ c.if-not-here.true))

pub letter_of-stores-requires : goal.letter_of-stores-requires
letter_of-stores-requires c = ((ranges _).0 c.m.invariant).x

-- Given, so that second_over_the_first is refused for the place and not for a search that gives up.
pub letter_of-requires : goal.letter_of-requires
letter_of-requires c = rw c.moved_by-next.ensures (rw (← c.m.view_is) at c.requires)

pub overflow_add-result : goal.overflow_add-result
overflow_add-result c =
    let a = c.args in
    omega (arith, letter_at_most a.m a.set.now _ _ a.second.value c.letter_of.ensures, letter_at_most a.m a.set.now _ _ a.first.value c.letter_of-stores.ensures)

pub returns-clause-stores : goal.returns-clause-stores
returns-clause-stores c =
    rw (← c.m.view_is)
    (both_lit c.m.inside.machine _ _ _ _ c.moved_by-next.ensures (not-false _ c.if-not-here.false) (rw (← c.m.view_is) at c.letter_of-stores.ensures) (rw (← c.m.view_is) at c.letter_of.ensures))
