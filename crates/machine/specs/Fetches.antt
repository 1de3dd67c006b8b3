-- The words of a step that are fetched and asked before anything is done: the instruction of the first, the second of modes 2 and 3, or what each is refused for.
use Rattle.std.specs.Prelude.{ℕ, ◌++◌, ◌≡◌, Result, Ok, Err}
use Rattle.definition.specs.Choice.{first_of}
use Rattle.definition.specs.Refusal.{refusal_number}
use Rattle.definition.specs.File.{word_in, fetch_refusals}
use Rattle.definition.specs.Words.{first_refusals, second_refusals}
use Rattle.definition.specs.Step.{Given, first, second, instruction}
use Rattle.definition.specs.declared.Machine.{Machine}
use Rattle.definition.specs.declared.Instruction.{Instruction}
use Rattle.definition.specs.declared.Refusal.{Refusal}

abbrev pub Firsts : Given → Machine → Result Instruction Refusal → Type 0
Firsts g m (Ok i) = (first_of (fetch_refusals (first g m)) ≡ 0) × (first_of (first_refusals m.mode (word_in (first g m))) ≡ 0) × (i ≡ instruction g m)
Firsts g m (Err why) = first_of (fetch_refusals (first g m) ++ first_refusals m.mode (word_in (first g m))) ≡ refusal_number why

abbrev pub Seconds : Given → Machine → Result ℕ Refusal → Type 0
Seconds g m (Ok v) = (second g m ≡ Ok v) × (first_of (second_refusals v) ≡ 0)
Seconds g m (Err why) = first_of (fetch_refusals (second g m) ++ second_refusals (word_in (second g m))) ≡ refusal_number why
