-- What the calls of a host promise, beside those whose promise is the definition's own: the whole outcome, as one equation.
use Rattle.std.specs.Prelude.{ℕ, List, ◌≡◌, ℤ}
use Rattle.definition.specs.Units.{pixel}
use Rattle.definition.specs.Image.{square, left}
use Rattle.definition.specs.Machine.{fresh}
use Rattle.definition.specs.Calls.{Lent, read_call}
use Rattle.numbers.specs.Numbers.{numbers_of, interface}
use Rattle.numbers.specs.declared.HostMachine.{HostMachine}
use Rattle.numbers.specs.declared.HostStarted.{HostStarted}
use Rattle.numbers.specs.declared.HostRan.{HostRan}
use Rattle.numbers.specs.declared.HostRead.{HostRead}
use Rattle.host.specs.Calls.{host_start, host_run, read_numbers}

abbrev pub PromiseHostFresh : HostMachine → Type 0
PromiseHostFresh m = m ≡ numbers_of fresh

abbrev pub PromiseHostStart : HostMachine → ℕ → HostStarted → Type 0
PromiseHostStart m a r = r ≡ host_start m a

abbrev pub PromiseHostRun : Lent → HostMachine → List ℕ → ℕ → HostRan → List ℕ → Type 0
PromiseHostRun l m im b r after = left r after ≡ host_run l m im b

abbrev pub PromiseHostStep : Lent → HostMachine → List ℕ → HostRan → List ℕ → Type 0
PromiseHostStep l m im r after = PromiseHostRun l m im 1 r after

abbrev pub PromiseHostRead : List ℕ → ℤ → ℤ → HostRead → Type 0
PromiseHostRead im x y r = r ≡ read_numbers (read_call square im (pixel x y))

abbrev pub PromiseHostInterface : ℕ → Type 0
PromiseHostInterface r = r ≡ interface
