-- What each call promises: its whole outcome, as one equation. The contracts of the code cite these by name.
use Rattle.std.specs.Prelude.{ℕ, List, ◌≡◌}
use Rattle.definition.specs.Image.{square, left}
use Rattle.definition.specs.Machine.{fresh}
use Rattle.definition.specs.Calls.{Lent, Started, Read, check_call, start_call, run_call, step_call, clear_call, read_call}
use Rattle.definition.specs.declared.Pixel.{Pixel}
use Rattle.definition.specs.declared.Machine.{Machine}
use Rattle.definition.specs.declared.Ran.{Ran}

abbrev pub PromiseCheck : List ℕ → ℕ → Type 0
PromiseCheck f answer = answer ≡ check_call f

abbrev pub PromiseFresh : Machine → Type 0
PromiseFresh m = m ≡ fresh

abbrev pub PromiseStart : Machine → ℕ → Started → Type 0
PromiseStart m a r = r ≡ start_call m a

abbrev pub PromiseRun : Lent → Machine → List ℕ → ℕ → Ran → List ℕ → Type 0
PromiseRun l m im b r after = left r after ≡ run_call l m im b

abbrev pub PromiseStep : Lent → Machine → List ℕ → Ran → List ℕ → Type 0
PromiseStep l m im r after = left r after ≡ step_call l m im

abbrev pub PromiseClear : List ℕ → ℕ → List ℕ → Type 0
PromiseClear im answer after = left answer after ≡ clear_call im

abbrev pub PromiseRead : List ℕ → Pixel → Read → Type 0
PromiseRead im p r = r ≡ read_call square im p
