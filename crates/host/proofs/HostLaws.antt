-- The host's calls by way of the display's: the same doors, and the same outcome in numbers.
use Prim.Native.Nat.{ℕ, ◌≤◌, ◌<◌}
use mathlib.Core.Bool.{Bool, true, false, not}
use mathlib.Core.List.{List}
use mathlib.Core.Path.{◌≡◌, refl, sym, ap, ◌∙◌}
use mathlib.Core.Logic.{◌↔◌}
use native.Mathlib.Omega.{arith}
use lib.Dec.{eqb}
use lib.ListN.{length}
use borrow.Author.Tests.{eqb-true, ne_eqb}
use Rattle.definition.specs.Choice.{pick, first_of}
use Rattle.definition.specs.Refusal.{refusal_number}
use Rattle.definition.specs.Image.{image_bytes, Left, left}
use Rattle.definition.specs.File.{head_doors, segment_doors, file_doors}
use Rattle.definition.specs.Machine.{machine_doors, started_at}
use Rattle.definition.specs.Run.{begun, run}
use Rattle.definition.specs.Calls.{image_doors, budget_doors, set_doors, running_doors, Lent, Started, given, start_call, run_doors, run_door, answered, turned_away, run_call}
use Rattle.definition.specs.declared.Machine.{Machine}
use Rattle.definition.specs.declared.Ran.{Ran}
use Rattle.definition.specs.declared.Refusal.{Refusal}
use Rattle.definition.proofs.Exactly.{apart, exactly, fails}
use Rattle.definition.proofs.Plain.{◌so◌, ◌and◌, itself, back, is_less, not_true, not_false, both_true, failing, never}
use Rattle.demands.specs.Conditions.{Accepted, Fits}
use Rattle.demands.proofs.Kept.{fits}
use Rattle.demands.proofs.Demands as demands
use Rattle.numbers.specs.Numbers.{numbers_of, machine_of, flags, all_ranged, taken, given_back, ran_of}
use Rattle.numbers.specs.declared.HostMachine.{HostMachine}
use Rattle.numbers.specs.declared.HostRan.{HostRan}
use Rattle.numbers.specs.declared.HostStarted.{HostStarted}
use Rattle.numbers.proofs.NumberLaws.{taken_whole, ranged_taken, status_taken, ranged_flags, in_numbers, untouched}
use Rattle.host.specs.Calls.{number_doors, host_start, host_doors, host_door, host_answered, host_turned_away, host_run, flag_doors, flag_door, started_numbers, ran_numbers}
use Rattle.host.specs.Conditions.{HostFits}
use Rattle.host.specs.Promises.{PromiseHostStart, PromiseHostRun}

-- ---- the ranges
below_two : {n : ℕ} → (n < 2) ↔ (n ≤ 1)
below_two = (λ h. omega arith, λ h. omega arith)

module _ (m : HostMachine) where
  not_all : flags m ≡ false → all_ranged m ≡ false
  unfolding all_ranged
  not_all e = rw e

  flag_fits : (flags m ≡ true) ↔ ((m.write ≤ 1) × (m.latch ≤ 1))
  unfolding flags
  flag_fits = both_true so (is_less so below_two) and (is_less so below_two)

  all_fit : (all_ranged m ≡ true) ↔ HostFits m
  unfolding all_ranged
  all_fit =
      both_true so flag_fits and fits (machine_of m)
      so (λ w. record { fields = w.1; write = w.0.0; latch = w.0.1 }, λ f. ((f.write, f.latch), f.fields))

  fits_taken : Fits (taken m) ↔ HostFits m
  fits_taken = back (fits (taken m)) so (λ e. sym (ranged_taken m) ∙ e, λ e. ranged_taken m ∙ e) so all_fit

-- ---- start
abbrev start_numbers : HostMachine → Started → HostStarted
start_numbers m s = record { machine = given_back m s.machine; answer = s.answer }

module _ (m : HostMachine) (a : ℕ) where
  whole_start : start_numbers m (start_call (taken m) a) ≡ host_start m a
  unfolding start_call host_start machine_doors number_doors first_of
  whole_start = rw (ranged_taken m) (go (all_ranged m) refl)
    where
      go : (t : Bool) → all_ranged m ≡ t
          → start_numbers m (record { answer = pick (not t) 16 0; machine = pick (eqb (pick (not t) 16 0) 0) (started_at (taken m) a) (taken m) })
          ≡ record { machine = pick (eqb (pick (not t) 16 0) 0) (numbers_of (started_at (machine_of m) a)) m; answer = pick (not t) 16 0 }
      go true e =
          let fl = ranged_flags m e in
          rw (in_numbers m (started_at (taken m) a) fl, taken_whole m fl)
      go false e = rw (untouched m)

  start_open : (host_start m a).answer ≡ 0 → flags m ≡ true
  unfolding host_start number_doors
  start_open z = ranged_flags m (not_false.0 (fails 16 (number_doors m) refl z))

  -- what the code does
  module _ {n : Machine} (en : n ≡ taken m) where
    answers : {s : Started} → s ≡ start_call n a → start_numbers m s ≡ host_start m a
    answers es = ap (start_numbers m) (rw en at es) ∙ whole_start

    pub goes : {s : Machine} → record { answer = 0; machine = s } ≡ start_call n a → {k : HostMachine} → k ≡ numbers_of s → PromiseHostStart m a (record { machine = k; answer = 0 })
    goes {s} es ek =
        let h = answers es in
        rw (ek, ← in_numbers m s (start_open (sym (ap (λ (r : HostStarted). r.answer) h)))) h

    pub refused : (why : Refusal) → record { answer = refusal_number why; machine = n } ≡ start_call n a → PromiseHostStart m a (record { machine = m; answer = refusal_number why })
    refused why es = rw (en, untouched m) at (answers es)

  flag_start : flags m ≡ false → host_start m a ≡ record { machine = m; answer = 16 }
  unfolding host_start number_doors first_of
  flag_start e = rw (not_all m e)

  pub every_start : host_start m a ≡ pick (flags m) (started_numbers (start_call (machine_of m) a)) (record { machine = m; answer = 16 })
  every_start = go (flags m) refl
    where
      go : (t : Bool) → flags m ≡ t → host_start m a ≡ pick t (started_numbers (start_call (machine_of m) a)) (record { machine = m; answer = 16 })
      go true e = sym whole_start ∙ rw (taken_whole m e, in_numbers m (start_call (machine_of m) a).machine e)
      go false e = flag_start e

  pub start_16 : ((host_start m a).answer ≡ 16) ↔ (HostFits m → ⊥)
  unfolding host_start number_doors
  start_16 = exactly 16 (number_doors m) (omega arith) so not_true so failing so never (all_fit m)

-- ---- run
abbrev run_numbers : HostMachine → Left Ran → Left HostRan
run_numbers m o = left (ran_of m o.result) o.image

module _ (l : Lent) (m : HostMachine) (im : List ℕ) (b : ℕ) where
  same_door : run_door l (taken m) im b ≡ host_door l m im b
  unfolding run_door run_doors host_door host_doors machine_doors number_doors running_doors
  same_door = rw (ranged_taken m, status_taken m)

  flags_open : host_door l m im b ≡ 0 → flags m ≡ true
  unfolding host_door host_doors image_doors file_doors head_doors segment_doors number_doors budget_doors set_doors running_doors
  flags_open z = ranged_flags m (not_false.0 (fails 16 (host_doors l m im b) refl z))

  whole_run : run_numbers m (run_call l (taken m) im b) ≡ host_run l m im b
  unfolding run_call host_run ran_of
  whole_run = rw same_door (go (eqb door 0) refl)
    where
      door : ℕ
      door = host_door l m im b

      go : (t : Bool) → eqb door 0 ≡ t
          → run_numbers m (pick t (answered (run (given l) b (begun (taken m) im))) (turned_away (taken m) im door))
          ≡ pick t (host_answered (run (given l) b (begun (machine_of m) im))) (host_turned_away m im door)
      go true e =
          let fl = flags_open (eqb-true _ _ e) in
          rw (taken_whole m fl, in_numbers m (run (given l) b (begun (machine_of m) im)).machine fl)
      go false e = rw (untouched m)

  -- ---- with a flag out of range
  flag_shut : flag_door l im ≡ 0 → ⊥
  unfolding flag_door flag_doors image_doors file_doors head_doors segment_doors
  flag_shut z = apart (fails 16 (flag_doors l im) refl z)

  flag_door_is : flags m ≡ false → host_door l m im b ≡ flag_door l im
  unfolding host_door host_doors number_doors flag_door flag_doors image_doors file_doors head_doors segment_doors first_of
  flag_door_is e = rw (not_all m e)

  flag_run : flags m ≡ false → host_run l m im b ≡ host_turned_away m im (flag_door l im)
  unfolding host_run
  flag_run e = rw (flag_door_is e, ne_eqb _ _ flag_shut)

  pub every_run : host_run l m im b ≡ pick (flags m) (ran_numbers (run_call l (machine_of m) im b)) (host_turned_away m im (flag_door l im))
  unfolding ran_of
  every_run = go (flags m) refl
    where
      go : (t : Bool) → flags m ≡ t → host_run l m im b ≡ pick t (ran_numbers (run_call l (machine_of m) im b)) (host_turned_away m im (flag_door l im))
      go true e = sym whole_run ∙ rw (taken_whole m e, in_numbers m (run_call l (machine_of m) im b).result.machine e)
      go false e = flag_run e

  pub run_16 : ((host_run l m im b).result.answer ≡ 16) ↔ ((length im ≡ image_bytes) × (Accepted l.file × (HostFits m → ⊥)))
  unfolding ran_of
  run_16 = rw (← whole_run) (demands.run_16 l (taken m) im b so itself and itself and never (fits_taken m))

-- what the code does: a run of the machine that the call works on
pub host_ran : (l : Lent) (m : HostMachine) (im : List ℕ) (b : ℕ) {n : Machine} → n ≡ taken m → {r : Ran} {im' : List ℕ} → left r im' ≡ run_call l n im b
    → {k : HostRan} → k ≡ ran_of m r → PromiseHostRun l m im b k im'
host_ran l m im b en er ek = rw ek (ap (run_numbers m) (rw en at er) ∙ whole_run l m im b)

-- two files that give every machine one run
pub alike : (l k : Lent) → ((m : Machine) (im : List ℕ) (b : ℕ) → run_call l m im b ≡ run_call k m im b) → (m : HostMachine) (im : List ℕ) (b : ℕ) → host_run l m im b ≡ host_run k m im b
alike l k e m im b = sym (whole_run l m im b) ∙ ap (run_numbers m) (e (taken m) im b) ∙ whole_run k m im b
