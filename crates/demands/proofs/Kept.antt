-- What a run keeps: the image's length, and every field of the machine in its range.
use Prim.Native.Nat.{ℕ, ◌≤◌, ◌<◌}
use mathlib.Core.Bool.{true}
use mathlib.Core.List.{List, [], ◌∷◌}
use mathlib.Core.Path.{◌≡◌, refl, sym, ◌∙◌}
use mathlib.Core.Logic.{◌⊎◌, ◌↔◌}
use native.Mathlib.Omega.{arith}
use lib.ListN.{length}
use Rattle.definition.specs.Choice.{among}
use Rattle.definition.specs.Words.{none, sets_mode}
use Rattle.definition.specs.Machine.{shape_of, pen_of, in_range, is_mode, statuses, is_status, ranged}
use Rattle.definition.specs.Step.{Given, step}
use Rattle.definition.specs.Run.{State, run}
use Rattle.definition.specs.declared.Units.{Units}
use Rattle.definition.specs.declared.Machine.{Machine}
use Rattle.definition.proofs.Exactly.{apart}
use Rattle.definition.proofs.Plain.{◌so◌, ◌and◌, ◌or◌, is_most, is_most_z, is_equal, both_true, either_true}
use Rattle.demands.specs.Conditions.{Among, InRange, Fits}
use Rattle.definition.proofs.StepLaws.{ranges, step_ranged}
use Rattle.demands.proofs.Runs.{run_keeps}
use Rattle.definition.proofs.StoreLaws.{stores_length, Fitting}

-- ---- 16's test and the plain ranges
pub in_range_is : {u : Units} → (in_range u ≡ true) ↔ InRange u
unfolding in_range
in_range_is = both_true so is_most_z and is_most_z so (λ w. record { low = w.0; high = w.1 }, λ r. (r.low, r.high))

is_mode_is : {k : ℕ} → (is_mode k ≡ true) ↔ ((k ≡ none) ⊎ (k ≤ 6))
unfolding is_mode sets_mode
is_mode_is = either_true so is_equal or is_most

pub is_among : (n : ℕ) (ks : List ℕ) → (among n ks ≡ true) ↔ Among n ks
is_among n [] = (λ e. apart (sym e), λ w. absurd w)
is_among n (k ∷ ks) = either_true so is_equal or is_among n ks

is_status_is : {s : ℕ} → (is_status s ≡ true) ↔ Among s statuses
unfolding is_status
is_status_is {s} = is_among s statuses

below_four : {n : ℕ} → (n < 4) ↔ (n ≤ 3)
below_four = (λ h. omega arith, λ h. omega arith)

pub fits : (m : Machine) → (ranged m ≡ true) ↔ Fits m
fits m =
    ranges m
    so (
      λ r. record { x = in_range_is.0 r.x; y = in_range_is.0 r.y; mode = is_mode_is.0 r.mode; value = below_four.0 r.value; increment = r.increment; status = is_status_is.0 r.status },
      λ f. record { x = in_range_is.1 f.x; y = in_range_is.1 f.y; mode = is_mode_is.1 f.mode; value = below_four.1 f.value; increment = f.increment; status = is_status_is.1 f.status },
    )

-- a machine in range stores a digit of its shape
pub pen_fits : (m : Machine) → Fits m → Fitting (shape_of m).base (pen_of m)
pen_fits m f = record { some = omega arith; low = λ v h. below_four.1 f.value }

-- ---- a step and a run
pub step_fits : (g : Given) (m : Machine) → Fits m → Fits (step g m).machine
step_fits g m f = (fits (step g m).machine).0 (step_ranged g m ((fits m).1 f))

pub run_fits : (g : Given) (b : ℕ) (s : State) → Fits s.machine → Fits (run g b s).machine
run_fits g b s f = run_keeps g (λ t. Fits t.machine) (λ t h. step_fits g t.machine h) b s f

pub run_length : (g : Given) (b : ℕ) (s : State) → length (run g b s).image ≡ length s.image
run_length g b s = run_keeps g (λ t. length t.image ≡ length s.image) (λ t h. stores_length _ _ t.image _ ∙ h) b s refl
