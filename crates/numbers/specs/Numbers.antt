-- The machine in numbers, as a host program holds it: a flag is 1 or 0, and any other number is out of range.
use Rattle.std.specs.Prelude.{ℕ, Bool, ◌&&◌, eqb, ltb}
use Rattle.definition.specs.Choice.{pick}
use Rattle.definition.specs.Units.{units}
use Rattle.definition.specs.Machine.{ranged, with_mode}
use Rattle.definition.specs.declared.Machine.{Machine}
use Rattle.definition.specs.declared.Ran.{Ran}
use Rattle.numbers.specs.declared.HostMachine.{HostMachine}
use Rattle.numbers.specs.declared.HostRan.{HostRan}

abbrev pub number : Bool → ℕ
number t = pick t 1 0

abbrev pub numbers_of : Machine → HostMachine
numbers_of m =
    record { x = m.x.0; y = m.y.0; counter = m.counter; mode = m.mode; value = m.value; write = number m.write; latch = number m.latch; increment = m.increment; status = m.status }

-- the machine that numbers stand for
abbrev pub machine_of : HostMachine → Machine
machine_of m =
    record { counter = m.counter; x = units m.x; y = units m.y; mode = m.mode; value = m.value; write = eqb m.write 1; latch = eqb m.latch 1; increment = m.increment; status = m.status }

unfoldable pub flags : HostMachine → Bool
flags m = ltb m.write 2 && ltb m.latch 2

-- every field is in its range, the flags too
unfoldable pub all_ranged : HostMachine → Bool
all_ranged m = flags m && ranged (machine_of m)

-- ---- what the code works with
-- a pixel value that is out of range
abbrev pub spoilt : ℕ
spoilt = 255

-- the machine that a call works on: where a flag is out of range its pixel value is so too
unfoldable pub taken : HostMachine → Machine
taken m = pick (flags m) (machine_of m) (with_mode (machine_of m) m.mode spoilt)

-- numbers with the pixel value and the flags of others
abbrev pub with_flags : HostMachine → HostMachine → HostMachine
with_flags k m = record { x = k.x; y = k.y; counter = k.counter; mode = k.mode; value = m.value; write = m.write; latch = m.latch; increment = k.increment; status = k.status }

-- what a call left of the machine that it worked on, in numbers: where a flag was out of range, what `taken` made of the numbers is undone
unfoldable pub given_back : HostMachine → Machine → HostMachine
given_back m n = pick (flags m) (numbers_of n) (with_flags (numbers_of n) m)

-- what a run or a step answered, in numbers
unfoldable pub ran_of : HostMachine → Ran → HostRan
ran_of m r = record { machine = given_back m r.machine; steps = r.counts.steps; words = r.counts.words; stores = r.counts.stores; answer = r.answer }

-- ---- the interface in C: raised when a record or a signature of include/roadparsnip.h changes
abbrev pub interface : ℕ
interface = 3
