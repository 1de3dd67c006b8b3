-- No drift: where a coordinate was last set, or began, and the sum of what moved it after that.
use Prim.Native.Nat.{ℕ, ◌+◌}
use mathlib.Core.List.{List, [], ◌∷◌}
use mathlib.Core.Path.{◌≡◌, refl, ap, ◌∙◌}
use native.Mathlib.Omega.{arith}
use lib.ListN.{length}
use lib.IntN.{ℤ, pos, ◌+ℤ◌}
use Rattle.whole.specs.Parts.{whole, add}
use Rattle.definition.specs.Units.{units, moved}
use Rattle.definition.specs.File.{word_in}
use Rattle.definition.specs.Step.{Change, Way, way_of, changed, ordered, done, Given, second, instruction, refusal, step}
use Rattle.definition.specs.Step.Change.{Stay, Set, Move}
use Rattle.definition.specs.Run.{State, run}
use Rattle.definition.specs.declared.Units.{Units}
use Rattle.definition.specs.declared.Machine.{Machine}
use Rattle.definition.specs.declared.Order.{Order}
use Rattle.definition.specs.declared.Order.TheVariants.{SetMode, Jump, NoOp, StatusA, Increment, StatusC}
use Rattle.definition.specs.declared.Instruction.{Instruction}
use Rattle.definition.specs.declared.Instruction.TheVariants.{Does, Draws}
use Rattle.demands.specs.Ledger.{completed, order_increment, increment_after, changes, last_setting, sum_since, settled}
use Rattle.definition.proofs.StepLaws.{step_done, step_refused}
use Rattle.demands.proofs.Runs.{by_turns}

from_nothing : (u : Units) → u ≡ units (u.0 +ℤ pos 0)
from_nothing u = ap units (omega (whole, add u.0 (pos 0)))

-- ---- changes one after the other, and what they come to
abbrev after_changes : Units → List Change → Units
after_changes u [] = u
after_changes u (c ∷ cs) = after_changes (changed u c) cs

comes_to : (u : Units) (z : ℤ) (cs : List Change) → after_changes (units (u.0 +ℤ z)) cs ≡ units ((last_setting u cs).0 +ℤ sum_since z cs)
unfolding moved
comes_to u z [] = refl
comes_to u z (Stay ∷ cs) = comes_to u z cs
comes_to u z (Set v ∷ cs) = ap (λ (w : Units). after_changes w cs) (from_nothing v) ∙ comes_to v (pos 0) cs
comes_to u z (Move d ∷ cs) =
    ap (λ (n : ℤ). after_changes (units n) cs) (omega (whole, add u.0 z, add (u.0 +ℤ z) d.0, add z d.0, add u.0 (z +ℤ d.0)))
    ∙ comes_to u (z +ℤ d.0) cs

settles : (u : Units) (cs : List Change) → after_changes u cs ≡ settled u cs
settles u cs = ap (λ (w : Units). after_changes w cs) (from_nothing u) ∙ comes_to u (pos 0) cs

-- ---- one instruction
ordered_leaves : (m : Machine) (o : Order) → ((ordered m o).x ≡ m.x) × ((ordered m o).y ≡ m.y) × ((ordered m o).increment ≡ order_increment m.increment o)
unfolding ordered
ordered_leaves m (SetMode b) = (refl, refl, refl)
ordered_leaves m Jump = (refl, refl, refl)
ordered_leaves m NoOp = (refl, refl, refl)
ordered_leaves m (StatusA b) = (refl, refl, refl)
ordered_leaves m (Increment b) = (refl, refl, refl)
ordered_leaves m (StatusC b) = (refl, refl, refl)

module _ (m : Machine) where
  pub done_x : (i : Instruction) (v : ℕ) → (done m i v).x ≡ changed m.x (way_of m.increment i v).x
  unfolding done
  done_x (Does o) v = (ordered_leaves m o).0
  done_x (Draws lit it) v = refl

  pub done_y : (i : Instruction) (v : ℕ) → (done m i v).y ≡ changed m.y (way_of m.increment i v).y
  unfolding done
  done_y (Does o) v = (ordered_leaves m o).1
  done_y (Draws lit it) v = refl

  done_increment : (i : Instruction) (v : ℕ) → (done m i v).increment ≡ increment_after m.increment i
  unfolding done
  done_increment (Does o) v = (ordered_leaves m o).2
  done_increment (Draws lit it) v = refl

-- ---- a run, for either coordinate: `get` reads it off the machine, `axis` off a way
module _ (g : Given) (get : Machine → Units) (axis : Way → Change)
    (one : (m : Machine) (i : Instruction) (v : ℕ) → get (done m i v) ≡ changed (get m) (axis (way_of m.increment i v)))
    (same : (m : Machine) → (refusal g m ≡ 0 → ⊥) → get (step g m).machine ≡ get m) where
  steady : (b : ℕ) (s : State) → get (run g b s).machine ≡ after_changes (get s.machine) (changes axis s.machine.increment (completed g b s))
  steady =
      by_turns g (λ s es r. get r.machine ≡ after_changes (get s.machine) (changes axis s.machine.increment es))
      (λ s. refl)
      (λ s h. same s.machine h)
      (λ s es r z ih.
      let m = s.machine in
      ih ∙ rw (step_done g m z, one m (instruction g m) (word_in (second g m)), done_increment m (instruction g m) (word_in (second g m))))

  no_drift : (b : ℕ) (s : State) → get (run g b s).machine ≡ settled (get s.machine) (changes axis s.machine.increment (completed g b s))
  no_drift b s = steady b s ∙ settles (get s.machine) (changes axis s.machine.increment (completed g b s))

-- ---- the theorem, for X and for Y
module _ (g : Given) (b : ℕ) (s : State) where
  pub no_drift_x : (run g b s).machine.x ≡ settled s.machine.x (changes (λ w. w.x) s.machine.increment (completed g b s))
  no_drift_x = no_drift g (λ m. m.x) (λ w. w.x) done_x (λ m h. rw (step_refused g m h)) b s

  pub no_drift_y : (run g b s).machine.y ≡ settled s.machine.y (changes (λ w. w.y) s.machine.increment (completed g b s))
  no_drift_y = no_drift g (λ m. m.y) (λ w. w.y) done_y (λ m h. rw (step_refused g m h)) b s

-- the ledger has every completed instruction: its length is the number of steps counted
pub completed_all : (g : Given) (b : ℕ) (s : State) → (run g b s).counts.steps ≡ s.counts.steps + length (completed g b s)
completed_all g =
    by_turns g (λ s es r. r.counts.steps ≡ s.counts.steps + length es)
    (λ s. omega arith)
    (λ s h. let no : (step g s.machine).steps ≡ 0 = rw (step_refused g s.machine h) in omega arith)
    (λ s es r z ih. let one : (step g s.machine).steps ≡ 1 = rw (step_done g s.machine z) in omega arith)
