-- The tables of answers: a step is refused, and a run turned away, by a number of their table; each number there is that of a test; and none is in two tables.
use Prim.Native.Nat.{ℕ}
use mathlib.Core.Bool.{Bool, true, false, ◌&&◌}
use mathlib.Core.List.{List, [], ◌∷◌}
use mathlib.Core.Path.{◌≡◌, refl}
use Rattle.std.specs.Prelude.{Result}
use Rattle.definition.specs.Choice.{pick, among, Test, first_of}
use Rattle.definition.specs.Machine.{fresh, with_latch, refusal_numbers, statuses}
use Rattle.definition.specs.Step.{ordered, Given, first, second, instruction, refusals, refusal}
use Rattle.definition.specs.Calls.{Lent, door_numbers, run_doors, run_door}
use Rattle.definition.specs.declared.Machine.{Machine}
use Rattle.definition.specs.declared.Unfetched.{Unfetched}
use Rattle.definition.specs.declared.Order.TheVariants.{StatusA}
use Rattle.definition.specs.declared.Instruction.{Instruction}
use Rattle.definition.proofs.Opened.{rules}
use Rattle.definition.proofs.Exactly.{names}
use Rattle.definition.proofs.Plain.{both_true}
use Rattle.definition.proofs.Tables.{all_of, in_one}

-- what a test on numbers says of 0 and of every number of a list of tests, it says of the list's answer
abbrev all_are : (ℕ → Bool) → List Test → Bool
all_are is [] = true
all_are is (t ∷ ts) = is t.number && all_are is ts

first_is : (is : ℕ → Bool) (ts : List Test) → is 0 ≡ true → all_are is ts ≡ true → is (first_of ts) ≡ true
unfolding first_of
first_is is [] z e = z
first_is is (t ∷ ts) z e = let w = (both_true {s = is t.number}).0 e in go t.holds w.0 (first_is is ts z w.1)
  where
    go : (b : Bool) → is t.number ≡ true → is (first_of ts) ≡ true → is (pick b t.number (first_of ts)) ≡ true
    go true p q = p
    go false p q = q

-- ---- a step: 0 or a refusal's number
pub refusal_is : (g : Given) (m : Machine) → among (refusal g m) (0 ∷ refusal_numbers) ≡ true
unfolding rules
refusal_is g m = first_is (λ n. among n (0 ∷ refusal_numbers)) (refusals m (first g m) (instruction g m) (second g m)) refl refl

pub refusals_all : (m : Machine) (got : Result ℕ Unfetched) (i : Instruction) (more : Result ℕ Unfetched) → all_of (λ n. names n (refusals m got i more)) refusal_numbers ≡ true
unfolding rules
refusals_all m got i more = refl

-- ---- a status: a fresh machine's, a stop's with the latch off or on, or a refusal's number
abbrev pub stopped : Bool → ℕ
unfolding ordered
stopped latch = (ordered (with_latch fresh latch) (StatusA (record { loads = false; latch = false; stops = true }))).status

pub statuses_all : all_of (λ n. among n (fresh.status ∷ stopped false ∷ stopped true ∷ refusal_numbers)) statuses ≡ true
unfolding ordered
statuses_all = refl

-- ---- a run: 0 or a door's number
pub door_is : (l : Lent) (m : Machine) (im : List ℕ) (b : ℕ) → among (run_door l m im b) (0 ∷ door_numbers) ≡ true
unfolding rules
door_is l m im b = first_is (λ n. among n (0 ∷ door_numbers)) (run_doors l m im b) refl refl

pub doors_all : (l : Lent) (m : Machine) (im : List ℕ) (b : ℕ) → all_of (λ n. names n (run_doors l m im b)) door_numbers ≡ true
unfolding rules
doors_all l m im b = refl

-- ---- a door's number is no status
pub door_no_status : (n : ℕ) → among n door_numbers ≡ true → among n statuses ≡ true → ⊥
door_no_status n = in_one door_numbers statuses n refl
