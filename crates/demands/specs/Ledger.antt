-- A run's ledger: the instructions that it completed, and what they do to a coordinate, read off the instructions alone.
use Rattle.std.specs.Prelude.{ℕ, zero, suc, List, [], ◌∷◌, eqb, ℤ, pos, ◌+ℤ◌}
use Rattle.definition.specs.Choice.{pick}
use Rattle.definition.specs.Units.{units}
use Rattle.definition.specs.File.{word_in}
use Rattle.definition.specs.Step.{Change, Way, way_of, Given, second, instruction, refusal, step}
use Rattle.definition.specs.Step.Change.{Stay, Set, Move}
use Rattle.definition.specs.Run.{State, after}
use Rattle.definition.specs.declared.Units.{Units}
use Rattle.definition.specs.declared.Order.{Order}
use Rattle.definition.specs.declared.Order.TheVariants.{SetMode, Jump, NoOp, StatusA, Increment, StatusC}
use Rattle.definition.specs.declared.Instruction.{Instruction}
use Rattle.definition.specs.declared.Instruction.TheVariants.{Does, Draws}

-- an instruction with its second word
pub record Entry : Type 0 where
  pub what : Instruction
  pub second : ℕ

abbrev pub entry : Given → State → Entry
entry g s = record { what = instruction g s.machine; second = word_in (second g s.machine) }

-- the instructions that a run of budget b completes, in their order
unfoldable pub completed : Given → ℕ → State → List Entry
completed g zero s = []
completed g (suc b) s =
    let rest = completed g b (after s (step g s.machine)) in
    pick (eqb s.machine.status 0) (pick (eqb (refusal g s.machine) 0) (entry g s ∷ rest) []) []

-- the increment after an instruction
abbrev pub order_increment : ℕ → Order → ℕ
order_increment g (SetMode b) = g
order_increment g Jump = g
order_increment g NoOp = g
order_increment g (StatusA b) = g
order_increment g (Increment b) = pick b.sets b.increment g
order_increment g (StatusC b) = g

abbrev pub increment_after : ℕ → Instruction → ℕ
increment_after g (Does o) = order_increment g o
increment_after g (Draws lit it) = g

-- what the entries do to a coordinate, one after the other; `axis` is X or Y of a way
abbrev pub changes : (Way → Change) → ℕ → List Entry → List Change
changes axis g [] = []
changes axis g (e ∷ es) = axis (way_of g e.what e.second) ∷ changes axis (increment_after g e.what) es

-- the last outright setting among changes, or the start where there is none; and the sum of the moves since it
abbrev pub last_setting : Units → List Change → Units
last_setting start [] = start
last_setting start (Stay ∷ cs) = last_setting start cs
last_setting start (Set v ∷ cs) = last_setting v cs
last_setting start (Move d ∷ cs) = last_setting start cs

abbrev pub sum_since : ℤ → List Change → ℤ
sum_since z [] = z
sum_since z (Stay ∷ cs) = sum_since z cs
sum_since z (Set v ∷ cs) = sum_since (pos 0) cs
sum_since z (Move d ∷ cs) = sum_since (z +ℤ d.0) cs

abbrev pub settled : Units → List Change → Units
settled start cs = units ((last_setting start cs).0 +ℤ sum_since (pos 0) cs)
