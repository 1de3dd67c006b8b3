-- Every stroke of a run has an origin, and every pixel that a completed instruction lights is a stroke.
use Prim.Native.Nat.{ℕ, zero, suc, ◌+◌, ◌<◌}
use mathlib.Core.Bool.{Bool, true, false, ◌&&◌}
use mathlib.Core.List.{List, [], ◌++◌, append_assoc}
use mathlib.Core.Path.{◌≡◌, refl, sym, ap, ◌∙◌}
use mathlib.Core.Logic.{◌⊎◌, inl, inr, ⊎_elim, ◌↔◌}
use native.Mathlib.Omega.{arith}
use native.Mathlib.Nat.{zero-add, suc-add}
use native.Mathlib.Decide.{ℕ_discrete}
use borrow.Author.Tests.{eq-eqb, ne_eqb}
use Rattle.definition.specs.Choice.{pick}
use Rattle.definition.specs.Image.{inside}
use Rattle.definition.specs.Machine.{shape_of}
use Rattle.definition.specs.Step.{item_pixels, stored_of, Given, instruction, refusal, Step, step}
use Rattle.definition.specs.Run.{State, run}
use Rattle.definition.specs.declared.Pixel.{Pixel}
use Rattle.definition.specs.declared.Machine.{Machine}
use Rattle.definition.specs.declared.Item.{Item}
use Rattle.definition.specs.declared.Instruction.{Instruction}
use Rattle.definition.specs.declared.Instruction.TheVariants.{Does, Draws}
use Rattle.definition.proofs.Exactly.{apart}
use Rattle.definition.proofs.Plain.{◌so◌, ◌and◌, ◌or◌, itself, back}
use Rattle.definition.proofs.StepLaws.{on, step_done, step_refused, run_turn, run_stopped}
use Rattle.demands.specs.Conditions.{Among, During, more}
use Rattle.demands.specs.Ledger.{completed}
use Rattle.demands.specs.Strokes.{Stroke, strokes_of, strokes, Lights}
use Rattle.demands.proofs.Members.{in_append, in_inside, in_strokes}
use Rattle.demands.proofs.Strokes.{done_next}

-- ---- one instruction
module _ (g : Given) (m : Machine) (p : Pixel) (free : refusal g m ≡ 0) where
  -- a lit item with write on stores those of its pixels that are in the field, and no other instruction stores any
  lights : Among p (stored_of g m (instruction g m) (more g m)) ↔ Lights g m p
  lights = by_kind (instruction g m) refl
    where
      by_item : (it : Item) (l w : Bool) → instruction g m ≡ Draws l it → m.write ≡ w
          → Among p (pick (l && w) (inside (shape_of m) (item_pixels g m it (more g m))) []) ↔ Lights g m p
      by_item it true true e on = in_inside (shape_of m) p (item_pixels g m it (more g m)) so (
        λ q. record { free = free; writing = on; item = it; lit = e; field = q.0; pixel = q.1 },
        λ r. (r.field, let same : r.item ≡ it = cc (e, r.lit) in rw same at r.pixel),
      )
      by_item it true false e off = (λ n. absurd n, λ r. absurd (apart (sym r.writing ∙ off)))
      by_item it false w e h = (λ n. absurd n, λ r. absurd (apart (cc (e, r.lit))))

      by_kind : (i : Instruction) → instruction g m ≡ i → Among p (stored_of g m i (more g m)) ↔ Lights g m p
      by_kind (Does o) e = (λ n. absurd n, λ r. absurd (let z : ◌≡◌ {A = ℕ} 0 1 = cc (e, r.lit) in omega arith))
      by_kind (Draws l it) e = by_item it l m.write e refl

module _ (g : Given) where
  -- ---- a run's strokes, turn by turn
  abbrev next_strokes : Machine → List Stroke
  next_strokes m = strokes_of m (stored_of g m (instruction g m) (more g m))

  strokes_turn : (b : ℕ) (s : State) → s.machine.status ≡ 0 → refusal g s.machine ≡ 0
      → strokes g (suc b) s ≡ next_strokes s.machine ++ strokes g b (on g s)
  unfolding strokes completed
  strokes_turn b s r z = rw (eq-eqb _ _ r, eq-eqb _ _ z, done_next g s z)

  pub strokes_zero : (s : State) → strokes g 0 s ≡ []
  unfolding strokes completed
  strokes_zero s = refl

  strokes_stopped : (b : ℕ) (s : State) → (s.machine.status ≡ 0 → ⊥) → strokes g b s ≡ []
  unfolding strokes completed
  strokes_stopped zero s h = refl
  strokes_stopped (suc b) s h = rw (ne_eqb _ _ h)

  strokes_refused : (b : ℕ) (s : State) → s.machine.status ≡ 0 → (refusal g s.machine ≡ 0 → ⊥) → strokes g (suc b) s ≡ []
  unfolding strokes completed
  strokes_refused b s r h = rw (eq-eqb _ _ r, ne_eqb _ _ h)

  -- ---- the steps of a run, turn by turn
  module _ (P : Machine → Type 0) where
    never_stopped : (b : ℕ) (s : State) → (s.machine.status ≡ 0 → ⊥) → During g b s P → ⊥
    never_stopped b s h d = h (rw (run_stopped g d.0 s h) at d.1.1.0)

    first_or_later : (b : ℕ) (s : State) → s.machine.status ≡ 0 → During g (suc b) s P ↔ (P s.machine ⊎ During g b (on g s) P)
    unfolding run
    first_or_later b s r = (λ d. there d.0 d.1, ⊎_elim (λ p. (0, (omega arith, (r, p)))) (λ d. (suc d.0, (let l = d.1.0 in omega arith, later d.0 d.1.1))))
      where
        there : (k : ℕ) → (k < suc b) × (((run g k s).machine.status ≡ 0) × P (run g k s).machine) → P s.machine ⊎ During g b (on g s) P
        there zero d = inl d.1.1
        there (suc k) d = inr (k, (let l = d.0 in omega arith, rw (run_turn g k s r) at d.1))

        later : (k : ℕ) → ((run g k (on g s)).machine.status ≡ 0) × P (run g k (on g s)).machine → ((run g (suc k) s).machine.status ≡ 0) × P (run g (suc k) s).machine
        later k d = rw (run_turn g k s r) d

  -- ---- the theorem
  pub stroke_origin : (b : ℕ) (s : State) (t : Stroke) → Among t (strokes g b s) ↔ During g b s (λ m. (t.machine ≡ m) × Lights g m t.pixel)
  unfolding strokes completed
  stroke_origin zero s t = (λ n. absurd n, λ d. absurd (let l = d.1.0 in omega arith))
  stroke_origin (suc b) s t = go (ℕ_discrete s.machine.status 0) (ℕ_discrete (refusal g s.machine) 0) (stroke_origin b (on g s) t)
    where
      P : Machine → Type 0
      P m = (t.machine ≡ m) × Lights g m t.pixel

      go : Dec (s.machine.status ≡ 0) → Dec (refusal g s.machine ≡ 0) → Among t (strokes g b (on g s)) ↔ During g b (on g s) P → Among t (strokes g (suc b) s) ↔ During g (suc b) s P
      go (no h) d ih = (λ k. absurd (rw (strokes_stopped (suc b) s h) at k), λ q. absurd (never_stopped P (suc b) s h q))
      go (yes r) (no h) ih = (
        λ k. absurd (rw (strokes_refused b s r h) at k),
        λ q. ⊎_elim (λ p. absurd (h p.1.free)) (λ l. absurd (never_stopped P b (on g s) (λ e. h (sym refused ∙ e)) l)) ((first_or_later P b s r).0 q),
      )
        where
          refused : (on g s).machine.status ≡ refusal g s.machine
          refused = rw (step_refused g s.machine h)
      go (yes r) (yes z) ih =
          rw (strokes_turn b s r z)
          (in_append t (next_strokes s.machine) (strokes g b (on g s))
          so (in_strokes s.machine t (stored_of g s.machine (instruction g s.machine) (more g s.machine)) so itself and lights g s.machine t.pixel z) or ih
          so back (first_or_later P b s r))

  -- the first step's strokes are what it stores, and the rest those of the run from there
  pub strokes_first : (b : ℕ) (s : State) → s.machine.status ≡ 0 → strokes g (suc b) s ≡ strokes_of s.machine (step g s.machine).pixels ++ strokes g b (on g s)
  strokes_first b s r = go (ℕ_discrete (refusal g s.machine) 0)
    where
      go : Dec (refusal g s.machine ≡ 0) → strokes g (suc b) s ≡ strokes_of s.machine (step g s.machine).pixels ++ strokes g b (on g s)
      go (yes z) =
          let e : (step g s.machine).pixels ≡ stored_of g s.machine (instruction g s.machine) (more g s.machine) = ap (λ (t : Step). t.pixels) (step_done g s.machine z) in
          strokes_turn b s r z ∙ sym (ap (λ (ps : List Pixel). strokes_of s.machine ps ++ strokes g b (on g s)) e)
      go (no h) =
          let st : (on g s).machine.status ≡ refusal g s.machine = rw (step_refused g s.machine h) in
          let e : (step g s.machine).pixels ≡ [] = ap (λ (t : Step). t.pixels) (step_refused g s.machine h) in
          strokes_refused b s r h
          ∙ sym (strokes_stopped b (on g s) (λ q. h (sym st ∙ q)))
          ∙ sym (ap (λ (ps : List Pixel). strokes_of s.machine ps ++ strokes g b (on g s)) e)

  -- the strokes of a run of b + c are those of a run of b and then those of a run of c
  pub strokes_add : (b c : ℕ) (s : State) → strokes g (b + c) s ≡ strokes g b s ++ strokes g c (run g b s)
  unfolding run
  strokes_add zero c s = rw zero-add (ap (λ (ts : List Stroke). ts ++ strokes g c s) (sym (strokes_zero s)))
  strokes_add (suc b) c s = rw suc-add (go (ℕ_discrete s.machine.status 0) (ℕ_discrete (refusal g s.machine) 0) (strokes_add b c (on g s)))
    where
      go : Dec (s.machine.status ≡ 0) → Dec (refusal g s.machine ≡ 0) → strokes g (b + c) (on g s) ≡ strokes g b (on g s) ++ strokes g c (run g b (on g s))
          → strokes g (suc (b + c)) s ≡ strokes g (suc b) s ++ strokes g c (run g (suc b) s)
      go (no h) d ih = rw (strokes_stopped (suc (b + c)) s h, strokes_stopped (suc b) s h, run_stopped g (suc b) s h) (sym (strokes_stopped c s h))
      go (yes r) (no h) ih =
          let st : (on g s).machine.status ≡ refusal g s.machine = rw (step_refused g s.machine h) in
          let n : (on g s).machine.status ≡ 0 → ⊥ = λ e. h (sym st ∙ e) in
          rw (strokes_refused (b + c) s r h, strokes_refused b s r h, run_turn g b s r, run_stopped g b (on g s) n) (sym (strokes_stopped c (on g s) n))
      go (yes r) (yes z) ih =
          rw (strokes_turn (b + c) s r z, strokes_turn b s r z, run_turn g b s r, ih)
          (sym (append_assoc (next_strokes s.machine) (strokes g b (on g s)) (strokes g c (run g b (on g s)))))
