-- The calls that take a machine in numbers: the rules of document 01's calls, with 16 also where a flag is out of range.
use Rattle.std.specs.Prelude.{ℕ, true, not, List, [], ◌∷◌, eqb}
use Rattle.definition.specs.Choice.{pick, Test, ◌when◌, first_of, joined}
use Rattle.definition.specs.Image.{Left, left}
use Rattle.definition.specs.File.{file_doors}
use Rattle.definition.specs.Machine.{started_at}
use Rattle.definition.specs.Run.{State, begun, run}
use Rattle.definition.specs.Calls.{Lent, Started, Read, given, image_doors, budget_doors, set_doors, running_doors}
use Rattle.definition.specs.declared.Ran.{Ran}
use Rattle.numbers.specs.Numbers.{numbers_of, machine_of, all_ranged}
use Rattle.numbers.specs.declared.HostMachine.{HostMachine}
use Rattle.numbers.specs.declared.HostStarted.{HostStarted}
use Rattle.numbers.specs.declared.HostRan.{HostRan}
use Rattle.numbers.specs.declared.HostRead.{HostRead}

unfoldable pub number_doors : HostMachine → List Test
number_doors m = 16 when not (all_ranged m) ∷ []

unfoldable pub host_start : HostMachine → ℕ → HostStarted
host_start m a =
    let n = first_of (number_doors m) in
    record { machine = pick (eqb n 0) (numbers_of (started_at (machine_of m) a)) m; answer = n }

-- 11, 12 to 15, 16, 17, 18, 28
unfoldable pub host_doors : Lent → HostMachine → List ℕ → ℕ → List Test
host_doors l m im b = joined (image_doors im ∷ file_doors l.file ∷ number_doors m ∷ budget_doors b ∷ set_doors l.set ∷ running_doors (machine_of m) ∷ [])

unfoldable pub host_door : Lent → HostMachine → List ℕ → ℕ → ℕ
host_door l m im b = first_of (host_doors l m im b)

abbrev pub host_answered : State → Left HostRan
host_answered s =
    left (record { machine = numbers_of s.machine; steps = s.counts.steps; words = s.counts.words; stores = s.counts.stores; answer = s.machine.status }) s.image

abbrev pub host_turned_away : HostMachine → List ℕ → ℕ → Left HostRan
host_turned_away m im n = left (record { machine = m; steps = 0; words = 0; stores = 0; answer = n }) im

unfoldable pub host_run : Lent → HostMachine → List ℕ → ℕ → Left HostRan
host_run l m im b =
    let ran = host_answered (run (given l) b (begun (machine_of m) im)) in
    pick (eqb (host_door l m im b) 0) ran (host_turned_away m im (host_door l m im b))

-- what a run answers a machine with a flag out of range: 11 where the image is wrong, else 12 to 15 where the file is refused, else 16
unfoldable pub flag_doors : Lent → List ℕ → List Test
flag_doors l im = joined (image_doors im ∷ file_doors l.file ∷ (16 when true ∷ []) ∷ [])

unfoldable pub flag_door : Lent → List ℕ → ℕ
flag_door l im = first_of (flag_doors l im)

-- what document 01's calls answer, in numbers
abbrev pub started_numbers : Started → HostStarted
started_numbers s = record { machine = numbers_of s.machine; answer = s.answer }

abbrev pub ran_numbers : Left Ran → Left HostRan
ran_numbers l =
    let r = l.result in
    left (record { machine = numbers_of r.machine; steps = r.counts.steps; words = r.counts.words; stores = r.counts.stores; answer = r.answer }) l.image

abbrev pub read_numbers : Read → HostRead
read_numbers r = record { digit = r.digit; answer = r.answer }
