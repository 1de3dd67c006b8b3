-- The numbers of the refusals, and the number that a call answers by its result.
use Rattle.std.specs.Prelude.{ℕ, Result, Ok, Err}
use Rattle.definition.specs.declared.Refusal.{Refusal}
use Rattle.definition.specs.declared.Refusal.TheVariants.{BadImage, ShortFile, BadTag, BadCount, BadSegment, BadMachine, BadBudget, BadSet, BadInput, OddAddress, NoSegment, NoPlace, NotBuilt, NoModeSet, SecondWord, OutOfRange, NotRunning, Outside, BadCharacter}

abbrev pub refusal_number : Refusal → ℕ
refusal_number BadImage = 11
refusal_number ShortFile = 12
refusal_number BadTag = 13
refusal_number BadCount = 14
refusal_number BadSegment = 15
refusal_number BadMachine = 16
refusal_number BadBudget = 17
refusal_number BadSet = 18
refusal_number BadInput = 19
refusal_number OddAddress = 21
refusal_number NoSegment = 22
refusal_number NoPlace = 23
refusal_number NotBuilt = 24
refusal_number NoModeSet = 25
refusal_number SecondWord = 26
refusal_number OutOfRange = 27
refusal_number NotRunning = 28
refusal_number Outside = 31
refusal_number BadCharacter = 32

-- 0 where nothing is refused
abbrev pub answer_of : Result (Unit {0}) Refusal → ℕ
answer_of (Ok done) = 0
answer_of (Err why) = refusal_number why
