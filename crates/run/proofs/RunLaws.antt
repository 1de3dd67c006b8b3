-- Laws of the run's loop: the rest of a run from here is the whole of it from the start, also past a step that was put off, and what a step adds to the counts at most.
use Prim.Native.Nat.{ℕ, zero, suc, ◌+◌, ◌-◌, ◌*◌, ◌≤◌, ◌<◌}
use mathlib.Core.Bool.{Bool, true, false}
use mathlib.Core.List.{List}
use mathlib.Core.Logic.{◌⊎◌, inl, inr}
use mathlib.Core.Path.{◌≡◌, refl, sym, ap, subst, ◌∙◌}
use native.Mathlib.Numerals.{sub-one}
use native.Mathlib.Omega.{arith}
use lib.Dec.{eqb}
use lib.ListN.{length}
use borrow.Author.Tests.{eq-eqb, ne_eqb, eqb-true, eqb-false}
use Rattle.definition.specs.Choice.{pick}
use Rattle.definition.specs.Image.{Left, left, stores}
use Rattle.definition.specs.File.{word_in, fetch_refusals}
use Rattle.definition.specs.Words.{has_second, first_refusals, second_refusals}
use Rattle.definition.specs.Machine.{is_status, ranged}
use Rattle.definition.specs.Step.{Given, Step, second, way_refusals, refusals, refusal, instruction, refuses, step}
use Rattle.definition.specs.Run.{counted, summed, State, begun, run}
use Rattle.definition.specs.Characters.{chosen}
use Rattle.definition.specs.Calls.{lending, plain, given, answered}
use Rattle.definition.specs.declared.Machine.{Machine}
use Rattle.definition.specs.declared.Counts.{Counts}
use Rattle.definition.specs.declared.Ran.{Ran}
use Rattle.definition.proofs.Plain.{either_false}
use Rattle.definition.proofs.Exactly.{apart}
use Rattle.definition.proofs.StepLaws.{pick_keeps, step_keeps, run_turn, run_stopped, free, ranges, step_ranged}
use Rattle.demands.proofs.Runs.{summed_nothing, run_plus}
use Rattle.outcome.specs.Outcome.{told, stepped, no_set}
use Rattle.outcome.specs.declared.Stepped.{Stepped}
use Rattle.outcome.proofs.PutOffLaws.{now_or_later}
use Rattle.items.proofs.CountLaws.{stored_few}
use Rattle.machine.specs.Rest.{draws_letters, later_step}
use Rattle.run.specs.Walked.{state, Within, awake, Walked}

-- the counts, as the loop has them
abbrev pub counts : ℕ → ℕ → ℕ → Counts
counts steps words stores = record { steps = steps; words = words; stores = stores }

-- ---- a machine that is put off or not
-- the machine that a run goes on from
unfoldable pub woken : Machine → Machine
woken m = pick (eqb m.status no_set) (awake m) m

woken_off : (m : Machine) → m.status ≡ no_set → woken m ≡ awake m
unfolding woken
woken_off m e = ap (λ (t : Bool). pick t (awake m) m) (eq-eqb _ _ e)

woken_not : (m : Machine) → (m.status ≡ no_set → ⊥) → woken m ≡ m
unfolding woken
woken_not m h = ap (λ (t : Bool). pick t (awake m) m) (ne_eqb _ _ h)

-- no machine in range is put off
pub in_range_not : (m : Machine) → ranged m ≡ true → m.status ≡ no_set → ⊥
unfolding is_status
in_range_not m h e = apart (sym (ap is_status (sym e) ∙ ((ranges m).0 h).status))

pub woken_in_range : (m : Machine) → ranged m ≡ true → woken m ≡ m
woken_in_range m h = woken_not m (in_range_not m h)

-- nor is one that runs
running : (m : Machine) → m.status ≡ 0 → woken m ≡ m
running m z = woken_not m (λ e. absurd (omega (arith, z, e)))

pub running_in_range : (m : Machine) → ranged (woken m) ≡ true → m.status ≡ 0 → ranged m ≡ true
running_in_range m h z = sym (ap ranged (running m z)) ∙ h

-- ---- what is left to do: twice the steps, and one more while the machine runs
abbrev pub ahead : ℕ → ℕ → ℕ
ahead left status = 2 * left + pick (eqb status 0) 1 0

pub ahead_less : (budget steps n status status' : ℕ) → steps < budget → n ≤ 1 → status ≡ 0 → (n ≡ 0 → status' ≡ 0 → ⊥) → ahead (budget - (steps + n)) status' < ahead (budget - steps) status
ahead_less budget steps zero status status' h k z o = rw (eq-eqb _ _ z, ne_eqb _ _ (o refl)) (omega arith)
ahead_less budget steps (suc zero) status status' h k z o = rw (eq-eqb _ _ z) (go (eqb status' 0))
  where
    go : (t : Bool) → 2 * (budget - (steps + 1)) + pick t 1 0 < 2 * (budget - steps) + 1
    go true = omega arith
    go false = omega arith
ahead_less budget steps (suc (suc n)) status status' h k z o = absurd (omega arith)

-- ---- a step that is not put off
two_at_most : (t : Bool) → pick t 2 1 ≤ 2 * 1
two_at_most true = omega arith
two_at_most false = omega arith

-- a step uses one of the budget; after one that ended the run it does not matter how much is left
one_or_over : (g : Given) (b : ℕ) (s : State) (n : ℕ) → n ≤ 1 → (n ≡ 0 → s.machine.status ≡ 0 → ⊥) → run g (b - 1) s ≡ run g (b - n) s
one_or_over g b s zero h o = run_stopped g (b - 1) s (o refl) ∙ sym (run_stopped g (b - 0) s (o refl))
one_or_over g b s (suc zero) h o = refl
one_or_over g b s (suc (suc n)) h o = absurd (omega arith)

module _ (g : Given) (m : Machine) (im : List ℕ) {r : Stepped} {im' : List ℕ} (e : left r im' ≡ stepped m im (step g m)) where
  step_in_range : ranged m ≡ true → ranged r.machine ≡ true
  unfolding stepped
  step_in_range h = ap (λ (l : Left Stepped). ranged l.result.machine) e ∙ step_ranged g m h

  step_few : ranged m ≡ true → Within 1 r.counts
  unfolding stepped refusals fetch_refusals first_refusals second_refusals way_refusals
  step_few h =
      let k = ap (λ (l : Left Stepped). l.result.counts) e in
      subst (Within 1) (sym k) (
      step_keeps g (λ t. Within 1 (counted t)) m
      (λ z. let w = either_false.0 (free g m 27 z) in record { steps = omega arith; words = two_at_most (has_second (instruction g m)); stores = stored_few g m (instruction g m) (word_in (second g m)) h w.0 w.1 })
      (record { steps = omega arith; words = omega arith; stores = omega arith })
      )

  -- a step that is not counted was refused, and ends the run
  step_stops : r.counts.steps ≡ 0 → r.machine.status ≡ 0 → ⊥
  unfolding stepped step
  step_stops z s =
      let w = ap (λ (l : Left Stepped). l.result.counts.steps) e in
      let v = ap (λ (l : Left Stepped). l.result.machine.status) e in
      pick_keeps (λ (t : Step). t.steps ≡ 0 → t.machine.status ≡ 0 → ⊥) (eqb (refusal g m) 0) (λ _ n. absurd (omega (arith, n))) (λ f n k. apart (sym (eq-eqb _ _ k) ∙ f)) (sym w ∙ z) (sym v ∙ s)

  one_step : (b : ℕ) (c : Counts) → 0 < b → m.status ≡ 0 → run g b (state m im c) ≡ run g (b - 1) (state r.machine im' (summed c r.counts))
  unfolding stepped
  one_step zero c p z = absurd (omega arith)
  one_step (suc b) c p z =
      run_turn g b (state m im c) z
      ∙ rw sub-one (ap (λ (l : Left Stepped). run g b (state l.result.machine l.image (summed c l.result.counts))) (sym e))

  step_next : (budget : ℕ) (c : Counts) → ranged m ≡ true → c.steps < budget → m.status ≡ 0
      → run g (budget - c.steps) (state m im c) ≡ run g (budget - (c.steps + r.counts.steps)) (state r.machine im' (summed c r.counts))
  step_next budget c h p z =
      let e : budget - (c.steps + r.counts.steps) ≡ budget - c.steps - r.counts.steps = omega arith in
      rw e (one_step (budget - c.steps) c (omega arith) z ∙ one_or_over g (budget - c.steps) _ r.counts.steps (step_few h).steps step_stops)

-- ---- one turn of the loop, put off or not
pub record Turn (set : List ℕ) (g : Given) (m : Machine) (im : List ℕ) (r : Stepped) (im' : List ℕ) : Type 0 where
  pub few : Within 1 r.counts
  pub stops : r.counts.steps ≡ 0 → r.machine.status ≡ 0 → ⊥
  pub in_range : ranged (woken r.machine) ≡ true
  pub none : r.machine.status ≡ no_set → length set ≡ 0
  pub next : (budget : ℕ) (c : Counts) → c.steps < budget
      → run g (budget - c.steps) (state (woken m) im c) ≡ run g (budget - (c.steps + r.counts.steps)) (state (woken r.machine) im' (summed c r.counts))

module _ (set : List ℕ) (g : Given) (m : Machine) (im : List ℕ) (k : ranged (woken m) ≡ true) (z : m.status ≡ 0) where
  h : ranged m ≡ true
  h = running_in_range m k z

  as_it_is : (b : ℕ) (c : Counts) → run g b (state (woken m) im c) ≡ run g b (state m im c)
  as_it_is b c = ap (λ (n : Machine). run g b (state n im c)) (running m z)

  turn_now : {r : Stepped} {im' : List ℕ} → left r im' ≡ stepped m im (step g m) → Turn set g m im r im'
  turn_now {r} {im'} e =
      let i = step_in_range g m im e h in
      let w = woken_in_range r.machine i in
      record {
        few = step_few g m im e h;
        stops = step_stops g m im e;
        in_range = ap ranged w ∙ i;
        none = λ q. absurd (in_range_not r.machine i q);
        next = λ b c p. as_it_is (b - c.steps) c ∙ step_next g m im e b c h p z ∙ ap (λ (n : Machine). run g (b - (c.steps + r.counts.steps)) (state n im' (summed c r.counts))) (sym w);
      }

  turn_later : length set ≡ 0 → Turn set g m im (told (refuses m no_set)) im
  turn_later n =
      let w : woken (told (refuses m no_set)).machine ≡ m = woken_off (told (refuses m no_set)).machine refl ∙ rw (← z) in
      record {
        few = record { steps = omega arith; words = omega arith; stores = omega arith };
        stops = λ _ q. absurd (omega (arith, q));
        in_range = ap ranged w ∙ h;
        none = λ _. n;
        next = λ b c p. as_it_is (b - c.steps) c ∙ ap (λ (t : Counts). run g (b - t.steps) (state m im t)) (sym (summed_nothing c)) ∙ ap (λ (k : Machine). run g (b - (c.steps + 0)) (state k im (summed c (told (refuses m no_set)).counts))) (sym w);
      }

  pub turn : {r : Stepped} {im' : List ℕ} → left r im' ≡ stepped m im (later_step set g m) → Turn set g m im r im'
  unfolding stepped stores
  turn {r} {im'} e = go (now_or_later (draws_letters (instruction g m)) set m (step g m))
    where
      go : (later_step set g m ≡ step g m) ⊎ ((length set ≡ 0) × (later_step set g m ≡ refuses m no_set)) → Turn set g m im r im'
      go (inl k) = turn_now (e ∙ ap (stepped m im) k)
      go (inr k) =
          let f = e ∙ ap (stepped m im) k.1 in
          subst (λ (l : Left Stepped). Turn set g m im l.result l.image) (sym f) (turn_later k.0)

-- ---- the start of the loop and its two ends
pub run_whole : (g : Given) (b : ℕ) (m : Machine) (im : List ℕ) → ranged m ≡ true → run g (b - 0) (begun (woken m) im) ≡ run g b (begun m im)
run_whole g b m im h =
    let z : b - 0 ≡ b = omega arith in
    rw (z, woken_in_range m h)

module _ (set : List ℕ) (g : Given) (b : ℕ) (m : Machine) (im : List ℕ) (here : Machine) (im' : List ℕ) (c : Counts)
    (i : ranged (woken here) ≡ true) (w : Within b c) (n : here.status ≡ no_set → length set ≡ 0)
    (e : run g (b - c.steps) (state (woken here) im' c) ≡ run g b (begun m im)) where
  abbrev ends : Ran
  ends = record { answer = here.status; counts = c; machine = here }

  ended : (state (woken here) im' c ≡ run g (b - c.steps) (state (woken here) im' c)) ⊎ (here.status ≡ no_set) → Walked set g b m im ends im'
  ended o =
      record {
        counts = w;
        done = λ h. over h o;
        off = λ q. (n q, ap ranged (sym (woken_off here q)) ∙ i, ap (λ (k : Machine). run g (b - c.steps) (state k im' c)) (sym (woken_off here q)) ∙ e);
      }
    where
      over : (here.status ≡ no_set → ⊥) → (state (woken here) im' c ≡ run g (b - c.steps) (state (woken here) im' c)) ⊎ (here.status ≡ no_set) → left ends im' ≡ answered (run g b (begun m im))
      over h (inl s) = ap (λ (k : Machine). answered (state k im' c)) (sym (woken_not here h)) ∙ ap answered (s ∙ e)
      over h (inr q) = absurd (h q)

  pub spent : b ≤ c.steps → Walked set g b m im ends im'
  unfolding run
  spent h =
      let z : b - c.steps ≡ 0 = omega arith in
      ended (inl (rw z))

  pub stopped : (here.status ≡ 0 → ⊥) → Walked set g b m im ends im'
  stopped h = ended (go (eqb here.status no_set) refl)
    where
      go : (t : Bool) → eqb here.status no_set ≡ t → (state (woken here) im' c ≡ run g (b - c.steps) (state (woken here) im' c)) ⊎ (here.status ≡ no_set)
      go true q = inr (eqb-true _ _ q)
      go false q =
          let k = woken_not here (eqb-false _ _ q) in
          inl (sym (run_stopped g (b - c.steps) (state (woken here) im' c) (λ s. h (ap (λ (j : Machine). j.status) (sym k) ∙ s))))

-- ---- the two parts of a run that was put off
-- where no set is lent, the built-in one serves
none_lent : (f set : List ℕ) → length set ≡ 0 → given (plain f) ≡ given (lending f set)
unfolding chosen
none_lent f set z = rw (eq-eqb _ _ z)

pub resumed : (f set : List ℕ) (b : ℕ) (s : State) {ran : Left Ran} {whole : State} → length set ≡ 0 → ran ≡ answered (run (given (plain f)) b s) → run (given (lending f set)) b s ≡ whole → ran ≡ answered whole
resumed f set b s z e w = e ∙ ap (λ (g : Given). answered (run g b s)) (none_lent f set z) ∙ ap answered w

module _ (g : Given) (b : ℕ) (m : Machine) (im : List ℕ) (t : Counts) {r : Ran} {im' : List ℕ} where
  -- what came before is added to what is counted from here
  pub gone_on : left r im' ≡ answered (run g b (begun m im)) → left (record { answer = r.answer; counts = summed t r.counts; machine = r.machine }) im' ≡ answered (run g b (state m im t))
  gone_on e =
      ap (λ (l : Left Ran). left (record { answer = l.result.answer; counts = summed t l.result.counts; machine = l.result.machine }) l.image) e
      ∙ ap answered (sym (run_plus g b t (begun m im)))
      ∙ ap (λ (c : Counts). answered (run g b (state m im c))) (summed_nothing t)
