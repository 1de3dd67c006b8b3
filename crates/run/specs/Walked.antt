-- What steps in a row come to: the whole run, or the run up to a step that was put off.
use Rattle.std.specs.Prelude.{ℕ, ◌-◌, ◌*◌, ◌≤◌, true, List, ◌≡◌, length}
use Rattle.definition.specs.Image.{left}
use Rattle.definition.specs.Machine.{with_status, ranged}
use Rattle.definition.specs.Step.{Given}
use Rattle.definition.specs.Run.{State, begun, run}
use Rattle.definition.specs.Calls.{answered}
use Rattle.definition.specs.declared.Machine.{Machine}
use Rattle.definition.specs.declared.Counts.{Counts}
use Rattle.definition.specs.declared.Ran.{Ran}
use Rattle.outcome.specs.Outcome.{no_set}

abbrev pub state : Machine → List ℕ → Counts → State
state m im c = record { machine = m; image = im; counts = c }

-- what at most n steps count
pub record Within (n : ℕ) (c : Counts) : Type 0 where
  pub steps : c.steps ≤ n
  pub words : c.words ≤ 2 * c.steps
  pub stores : c.stores ≤ 4096 * c.steps

-- the machine of a step that was put off, running again
abbrev pub awake : Machine → Machine
awake m = with_status m 0

pub record Walked (set : List ℕ) (g : Given) (b : ℕ) (m : Machine) (im : List ℕ) (r : Ran) (im' : List ℕ) : Type 0 where
  pub counts : Within b r.counts
  pub done : (r.answer ≡ no_set → ⊥) → left r im' ≡ answered (run g b (begun m im))
  -- the rest from here is the whole from the start
  pub off : r.answer ≡ no_set → (length set ≡ 0) × (ranged (awake r.machine) ≡ true) × (run g (b - r.counts.steps) (state (awake r.machine) im' r.counts) ≡ run g b (begun m im))
