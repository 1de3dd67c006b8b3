-- Laws of steps and runs.
use Prim.Native.Nat.{ℕ, zero, suc, ◌+◌}
use mathlib.Core.Bool.{Bool, true, false}
use mathlib.Core.List.{List, [], ◌∷◌}
use mathlib.Core.Path.{◌≡◌, refl, sym, ap, ◌∙◌}
use native.Mathlib.Nat.{zero-add, suc-add, add_assoc, add-zero}
use lib.Dec.{eqb}
use borrow.Author.Tests.{eqb-true, eqb-false}
use Rattle.definition.specs.Choice.{pick}
use Rattle.definition.specs.Image.{stores}
use Rattle.definition.specs.Machine.{with_status}
use Rattle.definition.specs.Step.{Given, refusal, step}
use Rattle.definition.specs.Run.{nothing, summed, State, begun, after, run}
use Rattle.definition.specs.declared.Machine.{Machine}
use Rattle.definition.specs.declared.Counts.{Counts}
use Rattle.definition.proofs.StepLaws.{pick_keeps, step_refused, on, run_turn, run_stopped}
use Rattle.demands.specs.With.{with_machine, with_counts}
use Rattle.demands.specs.Ledger.{Entry, entry, completed}
use Rattle.demands.specs.Outcomes.{plus}

-- nothing adds nothing
pub summed_nothing : (a : Counts) → summed a nothing ≡ a
summed_nothing a = simp add-zero

pick_plus : (b : Bool) (t : Counts) (x s : State) → pick b (plus t x) (plus t s) ≡ plus t (pick b x s)
pick_plus true t x s = refl
pick_plus false t x s = refl

module _ (g : Given) where
  -- a refused instruction changes the status and nothing else
  pub refused_only : (s : State) → (refusal g s.machine ≡ 0 → ⊥) → on g s ≡ with_machine s (with_status s.machine (refusal g s.machine))
  unfolding stores
  refused_only s h =
      ap (after s) (step_refused g s.machine h)
      ∙ ap (with_counts (with_machine s (with_status s.machine (refusal g s.machine)))) (summed_nothing s.counts)

  -- one turn of a running machine
  pub one_turn : (s : State) → s.machine.status ≡ 0 → run g 1 s ≡ on g s
  unfolding run
  one_turn s r = run_turn g 0 s r

  pub run_keeps : (P : State → Type 0) → ((s : State) → P s → P (on g s)) → (b : ℕ) (s : State) → P s → P (run g b s)
  unfolding run
  run_keeps P k zero s p = p
  run_keeps P k (suc b) s p = pick_keeps P (eqb s.machine.status 0) (λ e. run_keeps P k b (on g s) (k s p)) (λ e. p)

  -- a run of b + c is a run of b and then one of c
  pub run_add : (b c : ℕ) (s : State) → run g (b + c) s ≡ run g c (run g b s)
  unfolding run
  run_add zero c s = rw zero-add
  run_add (suc b) c s = rw suc-add (go (eqb s.machine.status 0) (run g b (on g s)) refl (run_add b c (on g s)))
    where
      go : (t : Bool) {u : State} (v : State) → eqb s.machine.status 0 ≡ t → u ≡ run g c v → pick t u s ≡ run g c (pick t v s)
      go true v h e = e
      go false v h e = sym (run_stopped g c s (eqb-false _ _ h))

  -- ---- counts from before
  on_plus : (t : Counts) (s : State) → on g (plus t s) ≡ plus t (on g s)
  on_plus t s = simp add_assoc

  pub run_plus : (b : ℕ) (t : Counts) (s : State) → run g b (plus t s) ≡ plus t (run g b s)
  unfolding run
  run_plus zero t s = refl
  run_plus (suc b) t s =
      ap (λ (x : State). pick (eqb s.machine.status 0) x (plus t s)) (ap (run g b) (on_plus t s) ∙ run_plus b t (on g s))
      ∙ pick_plus (eqb s.machine.status 0) t (run g b (on g s)) s

  -- and so the counts of two runs in a row, each from nothing, are summed
  pub run_twice : (b c : ℕ) (m : Machine) (im : List ℕ)
      → run g (b + c) (begun m im) ≡ plus (run g b (begun m im)).counts (run g c (begun (run g b (begun m im)).machine (run g b (begun m im)).image))
  run_twice b c m im =
      let r = run g b (begun m im) in
      run_add b c (begun m im)
      ∙ ap (λ (t : Counts). run g c (with_counts r t)) (sym (summed_nothing r.counts))
      ∙ run_plus c r.counts (begun r.machine r.image)

-- ---- a run turn by turn: what holds of no turn, of a stopped machine and of a refusal, and of one more completed instruction, holds of every run with its ledger
module _ (g : Given) (P : State → List Entry → State → Type 0)
    (rests : (s : State) → P s [] s)
    (refused : (s : State) → (refusal g s.machine ≡ 0 → ⊥) → P s [] (on g s))
    (one_more : (s : State) (es : List Entry) (r : State) → refusal g s.machine ≡ 0 → P (on g s) es r → P s (entry g s ∷ es) r) where
  pub by_turns : (b : ℕ) (s : State) → P s (completed g b s) (run g b s)
  unfolding run completed
  by_turns zero s = rests s
  by_turns (suc b) s = go (eqb s.machine.status 0) (eqb (refusal g s.machine) 0) refl (by_turns b (on g s))
    where
      m : Machine
      m = s.machine

      go : (t u : Bool) → eqb (refusal g m) 0 ≡ u → P (on g s) (completed g b (on g s)) (run g b (on g s))
          → P s (pick t (pick u (entry g s ∷ completed g b (on g s)) []) []) (pick t (run g b (on g s)) s)
      go false u e ih = rests s
      go true false e ih =
          let h = eqb-false _ _ e in
          let st : (step g m).machine.status ≡ refusal g m = rw (step_refused g m h) in
          rw (run_stopped g b (on g s) (λ q. h (sym st ∙ q))) (refused s h)
      go true true e ih = one_more s (completed g b (on g s)) (run g b (on g s)) (eqb-true _ _ e) ih
