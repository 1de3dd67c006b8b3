-- The answers of a run at the call, each exactly when.
use Prim.Native.Nat.{ℕ, zero, suc, ◌+◌, ◌-◌, ◌≤◌, ◌<◌}
use mathlib.Core.Bool.{true, false, not, ◌||◌}
use mathlib.Core.List.{List, [], ◌∷◌, ◌++◌}
use mathlib.Core.Path.{◌≡◌, refl, sym, ap, ◌∙◌}
use mathlib.Core.Logic.{⊎_elim, ◌↔◌}
use native.Mathlib.Omega.{arith}
use native.Mathlib.Nat.{add-zero}
use native.Mathlib.Decide.{ℕ_discrete}
use lib.Dec.{eqb, ltb}
use lib.ListN.{length}
use borrow.Author.Tests.{eq-eqb, ne_eqb, ltb-true}
use Rattle.definition.specs.Choice.{among, Test, first_of}
use Rattle.definition.specs.Image.{image_bytes, Left}
use Rattle.definition.specs.File.{head_doors, segment_doors, file_doors}
use Rattle.definition.specs.Characters.{set_bytes}
use Rattle.definition.specs.Machine.{refusal_numbers, statuses, machine_doors}
use Rattle.definition.specs.Step.{Given, refusal, step}
use Rattle.definition.specs.Run.{State, begun, run}
use Rattle.definition.specs.Calls.{image_doors, budget_doors, set_doors, running_doors, Lent, given, check_call, door_numbers, run_doors, run_door, answered, turned_away, run_call}
use Rattle.definition.specs.declared.Machine.{Machine}
use Rattle.definition.specs.declared.Ran.{Ran}
use Rattle.definition.proofs.Exactly.{apart, names, exactly, none_holds, in_later, in_first}
use Rattle.definition.proofs.Tables.{one_of, in_both}
use Rattle.definition.proofs.Answers.{door_is, door_no_status}
use Rattle.definition.proofs.Plain.{◌so◌, ◌and◌, ◌or◌, itself, is_less, not_less, is_equal, not_equal, not_true, not_false, either_true, failing, never}
use Rattle.demands.specs.Outcomes.{refused_after}
use Rattle.demands.specs.Conditions.{Among, Accepted, Fits, Lendable, Open, During}
use Rattle.definition.proofs.StepLaws.{on, step_done, step_refused, run_turn, run_stopped}
use Rattle.demands.proofs.Runs.{refused_only, run_add}
use Rattle.demands.proofs.Kept.{is_among, fits, run_fits}
use Rattle.demands.proofs.FileAnswers.{check_0}
use Rattle.demands.proofs.StepAnswers.{above_two}

-- ---- where a run ends
module _ (g : Given) (n : ℕ) (p : n ≡ 0 → ⊥) where
  abbrev Ends : ℕ → State → Type 0
  Ends b s = During g b s (λ m. (step g m).machine.status ≡ n)

  -- a run that is no longer running was ended by one of its steps
  by_a_step : (b : ℕ) (s : State) → s.machine.status ≡ 0 → (run g b s).machine.status ≡ n → Ends b s
  unfolding run
  by_a_step zero s z q = absurd (p (sym q ∙ z))
  by_a_step (suc b) s z q = go (sym (ap (λ (t : State). t.machine.status) (run_turn g b s z)) ∙ q) (λ y r. by_a_step b (on g s) y r) (ℕ_discrete (on g s).machine.status 0)
    where
      go : (run g b (on g s)).machine.status ≡ n → ((on g s).machine.status ≡ 0 → (run g b (on g s)).machine.status ≡ n → Ends b (on g s))
          → Dec ((on g s).machine.status ≡ 0) → Ends (suc b) s
      go r later (yes y) =
          let d = later y r in
          let k = d.1.0 in
          let e = run_turn g d.0 s z in
          (suc d.0, (omega arith, (ap (λ (t : State). t.machine.status) e ∙ d.1.1.0, ap (λ (t : State). (step g t.machine).machine.status) e ∙ d.1.1.1)))
      go r later (no h) = (0, (omega arith, (z, sym (ap (λ (t : State). t.machine.status) (run_stopped g b (on g s) h)) ∙ r)))

  -- and no step is made after it: the run leaves what that step left
  pub ends_there : (b : ℕ) (s : State) (d : Ends b s) → run g b s ≡ on g (run g d.0 s)
  ends_there b s d =
      let k = d.0 in
      let l = d.1.0 in
      let e : b ≡ k + suc (b - suc k) = omega arith in
      ap (λ (c : ℕ). run g c s) e
      ∙ run_add g k (suc (b - suc k)) s
      ∙ run_turn g (b - suc k) (run g k s) d.1.1.0
      ∙ run_stopped g (b - suc k) (on g (run g k s)) (λ q. p (sym d.1.1.1 ∙ q))

  pub ended : (b : ℕ) (s : State) → s.machine.status ≡ 0 → ((run g b s).machine.status ≡ n) ↔ Ends b s
  ended b s z = (by_a_step b s z, λ d. ap (λ (t : State). t.machine.status) (ends_there b s d) ∙ d.1.1.1)

-- a run that is still running has used its budget: it completed that many steps
pub budget_used : (g : Given) (b : ℕ) (s : State) → (run g b s).machine.status ≡ 0 → (run g b s).counts.steps ≡ s.counts.steps + b
unfolding run
budget_used g zero s q = sym (add-zero _)
budget_used g (suc b) s q = go (ℕ_discrete s.machine.status 0) (ℕ_discrete (refusal g s.machine) 0) (budget_used g b (on g s))
  where
    go : Dec (s.machine.status ≡ 0) → Dec (refusal g s.machine ≡ 0)
        → ((run g b (on g s)).machine.status ≡ 0 → (run g b (on g s)).counts.steps ≡ (on g s).counts.steps + b)
        → (run g (suc b) s).counts.steps ≡ s.counts.steps + suc b
    go (no h) d ih = absurd (h (sym (ap (λ (t : State). t.machine.status) (run_stopped g (suc b) s h)) ∙ q))
    go (yes z) (yes r) ih =
        let t = run_turn g b s z in
        let one : (step g s.machine).steps ≡ 1 = rw (step_done g s.machine r) in
        let i = ih (sym (ap (λ (t : State). t.machine.status) t) ∙ q) in
        ap (λ (t : State). t.counts.steps) t ∙ i ∙ omega arith
    go (yes z) (no r) ih =
        let t = run_turn g b s z in
        let st : (step g s.machine).machine.status ≡ refusal g s.machine = rw (step_refused g s.machine r) in
        absurd (r (sym st ∙ sym (ap (λ (t : State). t.machine.status) (run_stopped g b (on g s) (λ e. r (sym st ∙ e)))) ∙ sym (ap (λ (t : State). t.machine.status) t) ∙ q))

-- ---- the doors of a run, group by group
module _ (l : Lent) (m : Machine) (im : List ℕ) (b : ℕ) where
  abbrev f : List ℕ
  f = l.file

  abbrev door : ℕ
  door = run_door l m im b

  abbrev later : List Test
  later = machine_doors m ++ (budget_doors b ++ (set_doors l.set ++ (running_doors m ++ [])))

  image_passes : (first_of (image_doors im) ≡ 0) ↔ (length im ≡ image_bytes)
  unfolding image_doors
  image_passes = none_holds (image_doors im) refl so (not_false so is_equal) and itself so (λ w. w.0, λ h. (h, tt))

  -- 12 to 15 are the check's own
  at_the_file : (n : ℕ) → 0 < n → names n (image_doors im) ≡ false → names n later ≡ false → (door ≡ n) ↔ ((length im ≡ image_bytes) × (check_call f ≡ n))
  unfolding run_door run_doors check_call image_doors file_doors head_doors segment_doors
  at_the_file n p k q = in_later n (image_doors im) (file_doors f ++ later) refl k so image_passes and in_first n (file_doors f) later refl p q

  past_the_file : (n : ℕ) → names n (image_doors im) ≡ false → names n (file_doors f) ≡ false → (door ≡ n) ↔ ((length im ≡ image_bytes) × (Accepted f × (first_of later ≡ n)))
  unfolding run_door run_doors check_call image_doors file_doors head_doors segment_doors
  past_the_file n k q = in_later n (image_doors im) (file_doors f ++ later) refl k so image_passes and (in_later n (file_doors f) later refl q so check_0 f and itself)

  door_11 : (door ≡ 11) ↔ (length im ≡ image_bytes → ⊥)
  unfolding run_door run_doors image_doors file_doors head_doors segment_doors machine_doors budget_doors set_doors running_doors
  door_11 = in_first 11 (image_doors im) (file_doors f ++ later) refl (omega arith) refl so exactly 11 (image_doors im) (omega arith) so not_true so not_equal

  door_16 : (door ≡ 16) ↔ ((length im ≡ image_bytes) × (Accepted f × (Fits m → ⊥)))
  unfolding image_doors file_doors head_doors segment_doors machine_doors budget_doors set_doors running_doors
  door_16 = past_the_file 16 refl refl so itself and itself and (exactly 16 later (omega arith) so not_true so failing so never (fits m))

  door_17 : (door ≡ 17) ↔ ((length im ≡ image_bytes) × (Accepted f × (Fits m × (1000000 < b))))
  unfolding image_doors file_doors head_doors segment_doors machine_doors budget_doors set_doors running_doors
  door_17 = past_the_file 17 refl refl so itself and itself and (exactly 17 later (omega arith) so (not_false so fits m) and is_less)

  lendable : (not (eqb (length l.set) 0 || eqb (length l.set) set_bytes) ≡ false) ↔ Lendable l.set
  lendable = not_false so either_true so is_equal or is_equal

  door_18 : (door ≡ 18) ↔ ((length im ≡ image_bytes) × (Accepted f × (Fits m × ((b ≤ 1000000) × (Lendable l.set → ⊥)))))
  unfolding image_doors file_doors head_doors segment_doors machine_doors budget_doors set_doors running_doors
  door_18 = past_the_file 18 refl refl so itself and itself and (exactly 18 later (omega arith) so (not_false so fits m) and not_less and (not_true so failing so never (either_true so is_equal or is_equal)))

  door_28 : (door ≡ 28) ↔ ((length im ≡ image_bytes) × (Accepted f × (Fits m × ((b ≤ 1000000) × (Lendable l.set × (m.status ≡ 0 → ⊥))))))
  unfolding image_doors file_doors head_doors segment_doors machine_doors budget_doors set_doors running_doors
  door_28 = past_the_file 28 refl refl so itself and itself and (exactly 28 later (omega arith) so (not_false so fits m) and not_less and lendable and (not_true so not_equal))

  pub door_0 : (door ≡ 0) ↔ Open l m im b
  unfolding image_doors file_doors head_doors segment_doors machine_doors budget_doors set_doors running_doors
  door_0 =
      past_the_file 0 refl refl so itself and itself and (none_holds later refl so (not_false so fits m) and not_less and lendable and (not_false so is_equal) and itself)
      so (
        λ w. record { image = w.0; file = w.1.0; machine = w.1.1.0; budget = w.1.1.1.0; set = w.1.1.1.1.0; running = w.1.1.1.1.1.0 },
        λ o. (o.image, (o.file, (o.machine, (o.budget, (o.set, (o.running, tt)))))),
      )

  -- ---- the call: a door's number, or the run's last status
  abbrev answer : ℕ
  answer = (run_call l m im b).result.answer

  abbrev last : ℕ
  last = (run (given l) b (begun m im)).machine.status

  pub call_shut : (door ≡ 0 → ⊥) → run_call l m im b ≡ turned_away m im door
  unfolding run_call
  call_shut h = rw (ne_eqb _ _ h)

  pub call_open : door ≡ 0 → run_call l m im b ≡ answered (run (given l) b (begun m im))
  unfolding run_call
  call_open e = rw (eq-eqb _ _ e)

  -- a run ends with a status
  last_is : door ≡ 0 → among last statuses ≡ true
  last_is e = (is_among last statuses).1 (run_fits (given l) b (begun m im) (door_0.0 e).machine).status

  answer_shut : (door ≡ 0 → ⊥) → answer ≡ door
  answer_shut h = ap (λ (r : Left Ran). r.result.answer) (call_shut h)

  answer_open : door ≡ 0 → answer ≡ last
  answer_open z = ap (λ (r : Left Ran). r.result.answer) (call_open z)

  -- a door's number is no status, so that an answer says where it is from
  no_status : (n s : ℕ) → among n door_numbers ≡ true → among s statuses ≡ true → s ≡ n → ⊥
  no_status n s k h q = door_no_status n k (rw q at h)

  by_door : (n : ℕ) → among n door_numbers ≡ true → (answer ≡ n) ↔ (door ≡ n)
  by_door n k = go (ℕ_discrete door 0)
    where
      go : Dec (door ≡ 0) → (answer ≡ n) ↔ (door ≡ n)
      go (no h) = (λ q. sym (answer_shut h) ∙ q, λ q. answer_shut h ∙ q)
      go (yes z) = (λ q. absurd (no_status n last k (last_is z) (sym (answer_open z) ∙ q)), λ q. absurd (no_status n 0 k refl (sym z ∙ q)))

  by_run : (n : ℕ) → among n statuses ≡ true → (answer ≡ n) ↔ (Open l m im b × (last ≡ n))
  by_run n k = go (ℕ_discrete door 0)
    where
      shut : (door ≡ 0 → ⊥) → door ≡ n → ⊥
      shut h q = ⊎_elim (λ e. h (is_equal.0 e)) (λ e. no_status door n e k (sym q)) ((either_true {s = eqb door 0}).0 (door_is l m im b))

      go : Dec (door ≡ 0) → (answer ≡ n) ↔ (Open l m im b × (last ≡ n))
      go (no h) = (λ q. absurd (shut h (sym (answer_shut h) ∙ q)), λ q. absurd (h (door_0.1 q.0)))
      go (yes z) = (λ q. (door_0.0 z, sym (answer_open z) ∙ q), λ q. answer_open z ∙ q.1)

  -- every answer is in one of the tables, and 19 is in none
  answer_is : among answer (statuses ++ door_numbers) ≡ true
  answer_is = go (ℕ_discrete door 0)
    where
      go : Dec (door ≡ 0) → among answer (statuses ++ door_numbers) ≡ true
      go (no h) = rw (answer_shut h) (in_both (0 ∷ door_numbers) (statuses ++ door_numbers) door refl (door_is l m im b))
      go (yes z) = rw (answer_open z) (in_both statuses (statuses ++ door_numbers) last refl (last_is z))

  pub run_answers : Among answer (statuses ++ door_numbers)
  run_answers = (is_among answer (statuses ++ door_numbers)).0 answer_is

  pub never_19 : answer ≡ 19 → ⊥
  never_19 e = apart (sym (rw e at answer_is))

  -- ---- number by number
  pub run_11 : (answer ≡ 11) ↔ (length im ≡ image_bytes → ⊥)
  run_11 = by_door 11 refl so door_11

  pub run_checked : (n : ℕ) → among n (12 ∷ 13 ∷ 14 ∷ 15 ∷ []) ≡ true → (answer ≡ n) ↔ ((length im ≡ image_bytes) × (check_call f ≡ n))
  unfolding image_doors machine_doors budget_doors set_doors running_doors
  run_checked n k = by_door n (in_both files door_numbers n refl k) so at_the_file n (ltb-true 0 n (one_of (ltb 0) files n refl k)) (not_true.0 (one_of (λ n. not (names n (image_doors im))) files n refl k)) (not_true.0 (one_of (λ n. not (names n later)) files n refl k))
    where
      files : List ℕ
      files = 12 ∷ 13 ∷ 14 ∷ 15 ∷ []

  pub run_16 : (answer ≡ 16) ↔ ((length im ≡ image_bytes) × (Accepted f × (Fits m → ⊥)))
  run_16 = by_door 16 refl so door_16

  pub run_17 : (answer ≡ 17) ↔ ((length im ≡ image_bytes) × (Accepted f × (Fits m × (1000000 < b))))
  run_17 = by_door 17 refl so door_17

  pub run_18 : (answer ≡ 18) ↔ ((length im ≡ image_bytes) × (Accepted f × (Fits m × ((b ≤ 1000000) × (Lendable l.set → ⊥)))))
  run_18 = by_door 18 refl so door_18

  pub run_28 : (answer ≡ 28) ↔ ((length im ≡ image_bytes) × (Accepted f × (Fits m × ((b ≤ 1000000) × (Lendable l.set × (m.status ≡ 0 → ⊥))))))
  run_28 = by_door 28 refl so door_28

  pub run_0 : (answer ≡ 0) ↔ (Open l m im b × ((last ≡ 0) × ((run (given l) b (begun m im)).counts.steps ≡ b)))
  run_0 =
      by_run 0 refl
      so itself and (λ z. (z, let u = budget_used (given l) b (begun m im) z in omega arith), λ w. w.0)

  -- a status other than 0: one of the steps met its condition, and it was the last
  abbrev g : Given
  g = given l

  abbrev endings : List ℕ
  endings = 1 ∷ 2 ∷ refusal_numbers

  not_zero : (n : ℕ) → among n endings ≡ true → n ≡ 0 → ⊥
  not_zero n k z = apart (sym (rw z at k))

  pub run_ended : (n : ℕ) → among n endings ≡ true → (Q : Machine → Type 0)
      → ((m : Machine) → Fits m → m.status ≡ 0 → ((step g m).machine.status ≡ n) ↔ Q m)
      → (answer ≡ n) ↔ (Open l m im b × During g b (begun m im) Q)
  run_ended n k Q each = by_run n (in_both endings statuses n refl k) so (λ w. (w.0, there w.0 ((steps w.0).0 w.1)), λ w. (w.0, (steps w.0).1 (back_there w.0 w.1)))
    where
      s : State
      s = begun m im

      steps : Open l m im b → (last ≡ n) ↔ During g b s (λ m. (step g m).machine.status ≡ n)
      steps o = ended g n (not_zero n k) b s o.running

      there : Open l m im b → During g b s (λ m. (step g m).machine.status ≡ n) → During g b s Q
      there o d = (d.0, (d.1.0, (d.1.1.0, (each _ (run_fits g d.0 s o.machine) d.1.1.0).0 d.1.1.1)))

      back_there : Open l m im b → During g b s Q → During g b s (λ m. (step g m).machine.status ≡ n)
      back_there o d = (d.0, (d.1.0, (d.1.1.0, (each _ (run_fits g d.0 s o.machine) d.1.1.0).1 d.1.1.1)))

  over_two : (n : ℕ) → among n refusal_numbers ≡ true → 2 < n
  over_two n k = ltb-true 2 n (one_of (ltb 2) refusal_numbers n refl k)

  pub run_refusal : (n : ℕ) → among n refusal_numbers ≡ true → (Q : Machine → Type 0) → ((m : Machine) → Fits m → (refusal g m ≡ n) ↔ Q m)
      → (answer ≡ n) ↔ (Open l m im b × During g b (begun m im) Q)
  run_refusal n k Q each = run_ended n (in_both refusal_numbers endings n refl k) Q (λ m f r. above_two g m f r n (over_two n k) so each m f)

  -- a run that ends in a refusal: the steps before it stand, with their pixels and their counts, and of the machine that they left only the status is changed
  pub run_refused : (n : ℕ) → Among n refusal_numbers → answer ≡ n
      → (k : ℕ) × ((k < b) × (((run g k (begun m im)).counts.steps ≡ k) × (run_call l m im b ≡ refused_after n (run g k (begun m im)))))
  run_refused n h e =
      let k = (is_among n refusal_numbers).1 h in
      let w = (by_run n (in_both refusal_numbers statuses n refl k)).0 e in
      let some : n ≡ 0 → ⊥ = λ z. let o = over_two n k in omega arith in
      let d = (ended g n some b (begun m im) w.0.running).0 w.1 in
      let t = run g d.0 (begun m im) in
      let r : refusal g t.machine ≡ n = (above_two g t.machine (run_fits g d.0 (begun m im) w.0.machine) d.1.1.0 n (over_two n k)).0 d.1.1.1 in
      let u = budget_used g d.0 (begun m im) d.1.1.0 in
      (d.0, (d.1.0, (omega arith, call_open (door_0.1 w.0) ∙ ap answered (ends_there g n some b (begun m im) d ∙ refused_only g t (λ z. some (sym r ∙ z))) ∙ rw r)))
