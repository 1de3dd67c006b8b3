-- What the host's definitions guarantee: each promise allows one outcome; what start, run and step answer and leave, for every machine in numbers; when they
-- answer 16; and that the words in no segment of a file decide nothing. Each theorem stands here with a proof of a line.
use Prim.Native.Nat.{ℕ}
use mathlib.Core.List.{List}
use mathlib.Core.Path.{◌≡◌, sym, ap, ◌∙◌}
use mathlib.Core.Logic.{◌↔◌}
use lib.ListN.{length}
use lib.IntN.{ℤ}
use Rattle.definition.specs.Choice.{pick}
use Rattle.definition.specs.Image.{image_bytes, Left}
use Rattle.definition.specs.Calls.{Lent, start_call, run_call, step_call}
use Rattle.definition.specs.declared.Machine.{Machine}
use Rattle.demands.specs.Conditions.{Accepted, SameWords}
use Rattle.demands.specs.With.{with_file}
use Rattle.demands.proofs.Demands as demands
use Rattle.numbers.specs.Numbers.{numbers_of, machine_of, flags}
use Rattle.numbers.specs.declared.HostMachine.{HostMachine}
use Rattle.numbers.specs.declared.HostRan.{HostRan}
use Rattle.numbers.specs.declared.HostRead.{HostRead}
use Rattle.numbers.specs.declared.HostStarted.{HostStarted}
use Rattle.numbers.proofs.NumberLaws.{machine_back, flags_of_numbers}
use Rattle.host.specs.Calls.{host_start, host_turned_away, host_run, flag_door, started_numbers, ran_numbers}
use Rattle.host.specs.Conditions.{HostFits}
use Rattle.host.specs.Promises.{PromiseHostFresh, PromiseHostStart, PromiseHostRun, PromiseHostStep, PromiseHostRead, PromiseHostInterface}
use Rattle.host.proofs.HostLaws as laws

-- ==== one outcome
pub one_host_fresh : {m m' : HostMachine} → PromiseHostFresh m → PromiseHostFresh m' → m ≡ m'
one_host_fresh p q = p ∙ sym q

pub one_host_start : (m : HostMachine) (a : ℕ) {r r' : HostStarted} → PromiseHostStart m a r → PromiseHostStart m a r' → r ≡ r'
one_host_start m a p q = p ∙ sym q

pub one_host_run : (l : Lent) (m : HostMachine) (im : List ℕ) (b : ℕ) {r r' : HostRan} {im' im'' : List ℕ} → PromiseHostRun l m im b r im' → PromiseHostRun l m im b r' im''
    → (r ≡ r') × (im' ≡ im'')
one_host_run l m im b p q = (ap (λ (o : Left HostRan). o.result) (p ∙ sym q), ap (λ (o : Left HostRan). o.image) (p ∙ sym q))

pub one_host_step : (l : Lent) (m : HostMachine) (im : List ℕ) {r r' : HostRan} {im' im'' : List ℕ} → PromiseHostStep l m im r im' → PromiseHostStep l m im r' im''
    → (r ≡ r') × (im' ≡ im'')
one_host_step l m im p q = one_host_run l m im 1 p q

pub one_host_read : (im : List ℕ) (x y : ℤ) {r r' : HostRead} → PromiseHostRead im x y r → PromiseHostRead im x y r' → r ≡ r'
one_host_read im x y p q = p ∙ sym q

pub one_host_interface : {r r' : ℕ} → PromiseHostInterface r → PromiseHostInterface r' → r ≡ r'
one_host_interface p q = p ∙ sym q

-- ==== every machine in numbers
-- with both flags in range a call is document 01's call on the machine that the numbers stand for, in numbers; with a flag out of range start answers 16, and
-- run and step answer 11, 12 to 15 or 16, and leave all as given
pub every_start : (m : HostMachine) (a : ℕ) → host_start m a ≡ pick (flags m) (started_numbers (start_call (machine_of m) a)) (record { machine = m; answer = 16 })
every_start = laws.every_start

pub every_run : (l : Lent) (m : HostMachine) (im : List ℕ) (b : ℕ)
    → host_run l m im b ≡ pick (flags m) (ran_numbers (run_call l (machine_of m) im b)) (host_turned_away m im (flag_door l im))
every_run = laws.every_run

pub every_step : (l : Lent) (m : HostMachine) (im : List ℕ) → host_run l m im 1 ≡ pick (flags m) (ran_numbers (step_call l (machine_of m) im)) (host_turned_away m im (flag_door l im))
every_step l m im = laws.every_run l m im 1

-- so on the numbers of a machine they are document 01's calls on it
pub host_start_is_start : (m : Machine) (a : ℕ) → host_start (numbers_of m) a ≡ started_numbers (start_call m a)
host_start_is_start m a = rw (flags_of_numbers m, machine_back m) at (every_start (numbers_of m) a)

pub host_run_is_run : (l : Lent) (m : Machine) (im : List ℕ) (b : ℕ) → host_run l (numbers_of m) im b ≡ ran_numbers (run_call l m im b)
host_run_is_run l m im b = rw (flags_of_numbers m, machine_back m) at (every_run l (numbers_of m) im b)

-- ==== 16, exactly when
pub host_start_16 : (m : HostMachine) (a : ℕ) → ((host_start m a).answer ≡ 16) ↔ (HostFits m → ⊥)
host_start_16 = laws.start_16

pub host_run_16 : (l : Lent) (m : HostMachine) (im : List ℕ) (b : ℕ) → ((host_run l m im b).result.answer ≡ 16) ↔ ((length im ≡ image_bytes) × (Accepted l.file × (HostFits m → ⊥)))
host_run_16 = laws.run_16

-- ==== words in no segment decide nothing (of check: check_reads_the_header of Demands.antt)
-- in two files of one length with the same header and the same words in their segments, accepted or not, whatever else is lent
pub host_run_of_one_length : (f h : List ℕ) → SameWords f h → length f ≡ length h → (l : Lent) (m : HostMachine) (im : List ℕ) (b : ℕ) → host_run (with_file l f) m im b ≡ host_run (with_file l h) m im b
host_run_of_one_length f h s e l = laws.alike (with_file l f) (with_file l h) (demands.run_of_one_length f h s e l)

pub host_step_of_one_length : (f h : List ℕ) → SameWords f h → length f ≡ length h → (l : Lent) (m : HostMachine) (im : List ℕ) → host_run (with_file l f) m im 1 ≡ host_run (with_file l h) m im 1
host_step_of_one_length f h s e l m im = host_run_of_one_length f h s e l m im 1

-- and in two accepted ones of any lengths
pub host_run_reads_the_segments : (f h : List ℕ) → SameWords f h → Accepted f → Accepted h → (l : Lent) (m : HostMachine) (im : List ℕ) (b : ℕ) → host_run (with_file l f) m im b ≡ host_run (with_file l h) m im b
host_run_reads_the_segments f h s p q l = laws.alike (with_file l f) (with_file l h) (demands.run_reads_the_segments f h s p q l)
