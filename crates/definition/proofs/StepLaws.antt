-- Laws of a step and of a run's next turn: an instruction completes or is refused, what it is refused for, and that every field of the machine stays in its range.
use Prim.Native.Nat.{ℕ, zero, suc, ◌≤◌, ◌<◌}
use mathlib.Core.Bool.{Bool, true, false}
use mathlib.Core.List.{◌∷◌}
use mathlib.Core.Path.{◌≡◌, refl}
use mathlib.Core.Logic.{inr, ◌↔◌}
use native.Mathlib.Omega.{arith}
use lib.Dec.{eqb}
use borrow.Author.Tests.{eq-eqb, ne_eqb, eqb-true}
use Rattle.definition.specs.Choice.{pick}
use Rattle.definition.specs.File.{word_in, fetch_refusals}
use Rattle.definition.specs.Words.{none, bit, code, sets_mode, order, decode, first_refusals, second_refusals}
use Rattle.definition.specs.Machine.{in_range, is_mode, refusal_numbers, statuses, is_status, ranged}
use Rattle.definition.specs.Step.{Change, way_of, changed, leaves, ordered, done, Given, first, second, instruction, way_refusals, refusals, refusal, Step, completes, refuses, step}
use Rattle.definition.specs.Step.Change.{Stay, Set, Move}
use Rattle.definition.specs.Run.{State, after, run}
use Rattle.definition.specs.declared.Units.{Units}
use Rattle.definition.specs.declared.Machine.{Machine}
use Rattle.definition.specs.declared.Order.{Order}
use Rattle.definition.specs.declared.Order.TheVariants.{SetMode, Jump, NoOp, StatusA, Increment, StatusC}
use Rattle.definition.specs.declared.Instruction.{Instruction}
use Rattle.definition.specs.declared.Instruction.TheVariants.{Does, Draws}
use Rattle.definition.proofs.Exactly.{Fails, fails}
use Rattle.definition.proofs.Tables.{in_both}
use Rattle.definition.proofs.Answers.{refusal_is}
use Rattle.definition.proofs.Plain.{◌so◌, ◌and◌, itself, is_less, is_most, not_false, both_true, either_true, either_false}

pub pick_keeps : {A : Type 0} (P : A → Type 0) (t : Bool) {a b : A} → (t ≡ true → P a) → (t ≡ false → P b) → P (pick t a b)
pick_keeps P true p q = p refl
pick_keeps P false p q = q refl

module _ (g : Given) where
  -- ---- a step
  pub step_done : (m : Machine) → refusal g m ≡ 0 → step g m ≡ completes g m (instruction g m) (word_in (second g m))
  unfolding step
  step_done m e = rw (eq-eqb _ _ e)

  pub step_refused : (m : Machine) → (refusal g m ≡ 0 → ⊥) → step g m ≡ refuses m (refusal g m)
  unfolding step
  step_refused m h = rw (ne_eqb _ _ h)

  pub step_keeps : (P : Step → Type 0) (m : Machine) → (refusal g m ≡ 0 → P (completes g m (instruction g m) (word_in (second g m)))) → P (refuses m (refusal g m)) → P (step g m)
  unfolding step
  step_keeps P m p q = pick_keeps P (eqb (refusal g m) 0) (λ e. p (eqb-true _ _ e)) (λ e. q)

  -- ---- a run, one step on
  abbrev pub on : State → State
  on s = after s (step g s.machine)

  pub run_turn : (b : ℕ) (s : State) → s.machine.status ≡ 0 → run g (suc b) s ≡ run g b (on s)
  unfolding run
  run_turn b s e = rw (eq-eqb _ _ e)

  pub run_stopped : (b : ℕ) (s : State) → (s.machine.status ≡ 0 → ⊥) → run g b s ≡ s
  unfolding run
  run_stopped zero s h = refl
  run_stopped (suc b) s h = rw (ne_eqb _ _ h)

-- ---- what an instruction is refused for
-- an instruction that is not refused passes each test of its number
pub free : (g : Given) (m : Machine) (n : ℕ) → refusal g m ≡ 0 → Fails n (refusals m (first g m) (instruction g m) (second g m))
unfolding refusal refusals fetch_refusals first_refusals second_refusals way_refusals
free g m n e = fails n _ refl e

-- ---- the ranges, field by field
pub record Ranges (m : Machine) : Type 0 where
  pub x : in_range m.x ≡ true
  pub y : in_range m.y ≡ true
  pub mode : is_mode m.mode ≡ true
  pub value : m.value < 4
  pub increment : m.increment ≤ 63
  pub status : is_status m.status ≡ true

pub ranges : (m : Machine) → (ranged m ≡ true) ↔ Ranges m
unfolding ranged
ranges m =
    both_true so (both_true so (both_true so (both_true so both_true and itself) and is_less) and is_most) and itself
    so (
      λ w. record { x = w.0.0.0.0.0; y = w.0.0.0.0.1; mode = w.0.0.0.1; value = w.0.0.1; increment = w.0.1; status = w.1 },
      λ r. (((((r.x, r.y), r.mode), r.value), r.increment), r.status),
    )

-- an order that is read has its numbers in range
abbrev Read : Order → Type 0
Read (SetMode b) = (sets_mode b.mode ≡ true) × (b.value < 4)
Read Jump = Unit {0}
Read NoOp = Unit {0}
Read (StatusA b) = Unit {0}
Read (Increment b) = b.increment ≤ 63
Read (StatusC b) = Unit {0}

order_read : (w : ℕ) → Read (order w)
unfolding order
order_read w =
    pick_keeps Read (sets_mode (code w)) (λ e. (e, omega arith))
    λ a. pick_keeps Read (eqb (code w) 12) (λ e. tt)
    λ b. pick_keeps Read (eqb (code w) 13) (λ e. tt)
    λ c. pick_keeps Read (eqb (code w) 14) (λ e. tt)
    λ d. pick_keeps Read (bit 10 w) (λ e. tt) (λ e. omega arith)

a_mode : (k : ℕ) → sets_mode k ≡ true → is_mode k ≡ true
unfolding is_mode
a_mode k e = (either_true {s = eqb k none}).1 (inr e)

-- a stop leaves 1 or 2
stops_in : (latch : Bool) → is_status (pick latch 2 1) ≡ true
unfolding is_status
stops_in true = refl
stops_in false = refl

ordered_in : (m : Machine) (o : Order) → Read o → Ranges m → Ranges (ordered m o)
unfolding ordered
ordered_in m (SetMode b) r f =
    record { x = f.x; y = f.y; mode = a_mode _ r.0; value = pick_keeps (λ (n : ℕ). n < 4) b.sets (λ e. r.1) (λ e. f.value); increment = f.increment; status = f.status }
ordered_in m Jump r f = f
ordered_in m NoOp r f = f
ordered_in m (StatusA b) r f =
    let s = pick_keeps (λ (n : ℕ). is_status n ≡ true) b.stops (λ e. stops_in (pick b.loads b.latch m.latch)) (λ e. f.status) in
    record { x = f.x; y = f.y; mode = f.mode; value = f.value; increment = f.increment; status = s }
ordered_in m (Increment b) r f =
    record { x = f.x; y = f.y; mode = f.mode; value = f.value; increment = pick_keeps (λ (n : ℕ). n ≤ 63) b.sets (λ e. r) (λ e. f.increment); status = f.status }
ordered_in m (StatusC b) r f = record { x = f.x; y = f.y; mode = f.mode; value = f.value; increment = f.increment; status = f.status }

changed_in : (u : Units) (c : Change) → in_range u ≡ true → leaves u c ≡ false → in_range (changed u c) ≡ true
changed_in u Stay h k = h
changed_in u (Set v) h k = not_false.0 k
changed_in u (Move d) h k = not_false.0 k

abbrev ReadAll : Instruction → Type 0
ReadAll (Does o) = Read o
ReadAll (Draws lit it) = Unit {0}

decode_read : (mode w : ℕ) → ReadAll (decode mode w)
unfolding decode
decode_read mode w = pick_keeps ReadAll (bit 15 w) (λ e. order_read w) (λ e. tt)

done_in : (m : Machine) (i : Instruction) (v : ℕ) → ReadAll i
    → leaves m.x (way_of m.increment i v).x ≡ false → leaves m.y (way_of m.increment i v).y ≡ false → Ranges m → Ranges (done m i v)
unfolding done
done_in m (Does o) v r p q f =
    let u = ordered_in m o r f in
    record { x = u.x; y = u.y; mode = u.mode; value = u.value; increment = u.increment; status = u.status }
done_in m (Draws lit it) v r p q f =
    let w = way_of m.increment (Draws lit it) v in
    record { x = changed_in _ w.x f.x p; y = changed_in _ w.y f.y q; mode = f.mode; value = f.value; increment = f.increment; status = f.status }

refused_in : (g : Given) (m : Machine) → is_status (refusal g m) ≡ true
unfolding is_status
refused_in g m = in_both (0 ∷ refusal_numbers) statuses (refusal g m) refl (refusal_is g m)

pub step_ranged : (g : Given) (m : Machine) → ranged m ≡ true → ranged (step g m).machine ≡ true
unfolding refusals fetch_refusals first_refusals second_refusals way_refusals
step_ranged g m e =
    let f = (ranges m).0 e in
    (ranges (step g m).machine).1
    (step_keeps g (λ t. Ranges t.machine) m
    (λ z. let w = either_false.0 (free g m 27 z) in done_in m _ _ (decode_read m.mode _) w.0 w.1 f)
    (record { x = f.x; y = f.y; mode = f.mode; value = f.value; increment = f.increment; status = refused_in g m }))
