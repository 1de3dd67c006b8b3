-- Each refusal has a number of its own, and none has 0: a number that a call answers stands for one result.
use Prim.Native.Nat.{ℕ}
use mathlib.Core.List.{[], ◌∷◌}
use mathlib.Core.Path.{◌≡◌, refl, sym, ap, ◌∙◌}
use lib.ListN.{get_or}
use Rattle.std.specs.Prelude.{Result, Ok, Err, is_ok, Option, Some, None}
use Rattle.definition.specs.Refusal.{refusal_number, answer_of}
use Rattle.definition.specs.Calls.{Started, Read, started_of, read_of}
use Rattle.definition.proofs.Exactly.{apart}
use Rattle.definition.specs.declared.Machine.{Machine}
use Rattle.definition.specs.declared.Refusal.{Refusal}
use Rattle.definition.specs.declared.Refusal.TheVariants.{BadImage, ShortFile, BadTag, BadCount, BadSegment, BadMachine, BadBudget, BadSet, BadInput, OddAddress, NoSegment, NoPlace, NotBuilt, NoModeSet, SecondWord, OutOfRange, NotRunning, Outside, BadCharacter}

-- the refusal of each number, from 0 on
abbrev refusal_of : ℕ → Option Refusal
refusal_of n =
    get_or
    (None
    ∷ None
    ∷ None
    ∷ None
    ∷ None
    ∷ None
    ∷ None
    ∷ None
    ∷ None
    ∷ None
    ∷ None
    ∷ Some BadImage
    ∷ Some ShortFile
    ∷ Some BadTag
    ∷ Some BadCount
    ∷ Some BadSegment
    ∷ Some BadMachine
    ∷ Some BadBudget
    ∷ Some BadSet
    ∷ Some BadInput
    ∷ None
    ∷ Some OddAddress
    ∷ Some NoSegment
    ∷ Some NoPlace
    ∷ Some NotBuilt
    ∷ Some NoModeSet
    ∷ Some SecondWord
    ∷ Some OutOfRange
    ∷ Some NotRunning
    ∷ None
    ∷ None
    ∷ Some Outside
    ∷ Some BadCharacter
    ∷ [])
    n None

named : (why : Refusal) → refusal_of (refusal_number why) ≡ Some why
named BadImage = refl
named ShortFile = refl
named BadTag = refl
named BadCount = refl
named BadSegment = refl
named BadMachine = refl
named BadBudget = refl
named BadSet = refl
named BadInput = refl
named OddAddress = refl
named NoSegment = refl
named NoPlace = refl
named NotBuilt = refl
named NoModeSet = refl
named SecondWord = refl
named OutOfRange = refl
named NotRunning = refl
named Outside = refl
named BadCharacter = refl

-- the result that a number stands for, where one that is not refused is of that value
abbrev result_of : {T : Type 0} → T → Option Refusal → Result T Refusal
result_of v None = Ok v
result_of v (Some why) = Err why

known : (r : Result (Unit {0}) Refusal) → result_of tt (refusal_of (answer_of r)) ≡ r
known (Ok tt) = refl
known (Err why) = ap (result_of tt) (named why)

pub answers_differ : (r s : Result (Unit {0}) Refusal) → answer_of r ≡ answer_of s → r ≡ s
answers_differ r s e = sym (known r) ∙ ap (λ (n : ℕ). result_of tt (refusal_of n)) e ∙ known s

-- and what a start answers and leaves, and what a reading answers, each stand for one result too
abbrev start_of : Started → Result Machine Refusal
start_of t = result_of t.machine (refusal_of t.answer)

known_start : (m : Machine) (r : Result Machine Refusal) → start_of (started_of m r) ≡ r
known_start m (Ok n) = refl
known_start m (Err why) = ap (result_of m) (named why)

pub starts_differ : (m : Machine) (r s : Result Machine Refusal) → started_of m r ≡ started_of m s → r ≡ s
starts_differ m r s e = sym (known_start m r) ∙ ap start_of e ∙ known_start m s

abbrev reading_of : Read → Result ℕ Refusal
reading_of t = result_of t.digit (refusal_of t.answer)

known_read : (r : Result ℕ Refusal) → reading_of (read_of r) ≡ r
known_read (Ok digit) = refl
known_read (Err why) = ap (result_of 0) (named why)

pub reads_differ : (r s : Result ℕ Refusal) → read_of r ≡ read_of s → r ≡ s
reads_differ r s e = sym (known_read r) ∙ ap reading_of e ∙ known_read s

pub some_number : (why : Refusal) → refusal_number why ≡ 0 → ⊥
some_number why e = apart (sym (ap is_ok (answers_differ (Err why) (Ok tt) e)))
