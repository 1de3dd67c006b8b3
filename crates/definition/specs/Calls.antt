-- The calls: the doors of each in their order, and what each answers and leaves.
use Rattle.std.specs.Prelude.{ℕ, not, ◌||◌, List, [], ◌∷◌, ◌++◌, length, eqb, ltb, nat_abs, Result, Ok, Err}
use Rattle.definition.specs.Choice.{pick, Test, ◌when◌, first_of, joined}
use Rattle.definition.specs.Refusal.{refusal_number}
use Rattle.definition.specs.Image.{Shape, image_bytes, blank, in_field, digit_at, Left, left}
use Rattle.definition.specs.File.{file_doors, fetch}
use Rattle.definition.specs.BuiltIn.{built_in}
use Rattle.definition.specs.Characters.{set_bytes, chosen}
use Rattle.definition.specs.Machine.{started_at, machine_doors}
use Rattle.definition.specs.Step.{Given}
use Rattle.definition.specs.Run.{nothing, State, begun, run}
use Rattle.definition.specs.declared.Pixel.{Pixel}
use Rattle.definition.specs.declared.Machine.{Machine}
use Rattle.definition.specs.declared.Ran.{Ran}
use Rattle.definition.specs.declared.Refusal.{Refusal}

unfoldable pub image_doors : List ℕ → List Test
image_doors im = 11 when not (eqb (length im) image_bytes) ∷ []

unfoldable pub budget_doors : ℕ → List Test
budget_doors b = 17 when ltb 1000000 b ∷ []

unfoldable pub set_doors : List ℕ → List Test
set_doors set = 18 when not (eqb (length set) 0 || eqb (length set) set_bytes) ∷ []

unfoldable pub running_doors : Machine → List Test
running_doors m = 28 when not (eqb m.status 0) ∷ []

unfoldable pub field_doors : Shape → Pixel → List Test
field_doors s p = 31 when not (in_field s p) ∷ []

-- what a run is lent, beside its image: a file, and a set of characters, which may be empty
pub record Lent : Type 0 where
  pub file : List ℕ
  pub set : List ℕ

abbrev pub lending : List ℕ → List ℕ → Lent
lending f set = record { file = f; set = set }

abbrev pub plain : List ℕ → Lent
plain f = lending f []

abbrev pub given : Lent → Given
given l = record { memory = fetch l.file; set = chosen l.set built_in }

-- what a start answers: its number, and the machine that it leaves
pub record Started : Type 0 where
  pub answer : ℕ
  pub machine : Machine

-- what is read of a pixel: a number, and the digit
pub record Read : Type 0 where
  pub answer : ℕ
  pub digit : ℕ

-- the same, from the result of a call: a refused start leaves the machine as it was, and a refused reading reads 0
abbrev pub started_of : Machine → Result Machine Refusal → Started
started_of m (Ok n) = record { answer = 0; machine = n }
started_of m (Err why) = record { answer = refusal_number why; machine = m }

abbrev pub read_of : Result ℕ Refusal → Read
read_of (Ok digit) = record { answer = 0; digit = digit }
read_of (Err why) = record { answer = refusal_number why; digit = 0 }

unfoldable pub check_call : List ℕ → ℕ
check_call f = first_of (file_doors f)

unfoldable pub start_call : Machine → ℕ → Started
start_call m a =
    let n = first_of (machine_doors m) in
    record { answer = n; machine = pick (eqb n 0) (started_at m a) m }

-- what a run can be turned away with
abbrev pub door_numbers : List ℕ
door_numbers = 11 ∷ 12 ∷ 13 ∷ 14 ∷ 15 ∷ 16 ∷ 17 ∷ 18 ∷ 28 ∷ []

-- asked in this order: the image, the file (12 to 15), the machine, the budget, the set, the status
unfoldable pub run_doors : Lent → Machine → List ℕ → ℕ → List Test
run_doors l m im b = joined (image_doors im ∷ file_doors l.file ∷ machine_doors m ∷ budget_doors b ∷ set_doors l.set ∷ running_doors m ∷ [])

unfoldable pub run_door : Lent → Machine → List ℕ → ℕ → ℕ
run_door l m im b = first_of (run_doors l m im b)

-- a run answers its last status
abbrev pub answered : State → Left Ran
answered s = left (record { answer = s.machine.status; counts = s.counts; machine = s.machine }) s.image

-- a call refused at a door counts nothing and leaves everything as given
abbrev pub uncounted : Machine → ℕ → Ran
uncounted m n = record { answer = n; counts = nothing; machine = m }

abbrev pub turned_away : Machine → List ℕ → ℕ → Left Ran
turned_away m im n = left (uncounted m n) im

unfoldable pub run_call : Lent → Machine → List ℕ → ℕ → Left Ran
run_call l m im b =
    let ran = answered (run (given l) b (begun m im)) in
    pick (eqb (run_door l m im b) 0) ran (turned_away m im (run_door l m im b))

abbrev pub step_call : Lent → Machine → List ℕ → Left Ran
step_call l m im = run_call l m im 1

unfoldable pub clear_call : List ℕ → Left ℕ
clear_call im =
    let n = first_of (image_doors im) in
    left n (pick (eqb n 0) blank im)

-- a pixel is read by its coordinates, which may be below zero; a refusal reads 0
unfoldable pub read_call : Shape → List ℕ → Pixel → Read
read_call s im p =
    let n = first_of (image_doors im ++ field_doors s p) in
    record { answer = n; digit = pick (eqb n 0) (digit_at s im (nat_abs p.x.0) (nat_abs p.y.0)) 0 }
