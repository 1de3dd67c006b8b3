-- A run, a law for each way that it ends: what holds there, and that its outcome is the promised one.
use Prim.Native.Nat.{ℕ, ◌≤◌}
use mathlib.Core.Bool.{true}
use mathlib.Core.List.{List}
use mathlib.Core.Logic.{⊎_elim}
use lib.Dec.{eqb}
use mathlib.Core.Path.{◌≡◌, refl, sym}
use lib.ListN.{length}
use borrow.Author.Tests.{eq-eqb, ne_eqb, eqb-true}
use Rattle.definition.specs.Refusal.{refusal_number}
use Rattle.definition.specs.Characters.{set_bytes}
use Rattle.definition.specs.Image.{image_bytes, left}
use Rattle.definition.specs.Machine.{ranged}
use Rattle.definition.specs.Run.{begun, run}
use Rattle.definition.specs.Calls.{Lent, lending, given, run_door, answered, uncounted, run_call}
use Rattle.definition.specs.Promises.{PromiseRun}
use Rattle.definition.specs.declared.Machine.{Machine}
use Rattle.definition.specs.declared.Ran.{Ran}
use Rattle.definition.specs.declared.Refusal.{Refusal}
use Rattle.definition.proofs.Refusals.{some_number}
use Rattle.definition.proofs.Plain.{either_true}
use Rattle.std.proofs.lemmas.List.{nil_from_length}
use Rattle.doors.specs.Doors.{lent_door, asked_door}
use Rattle.doors.proofs.DoorLaws.{is_set, first_shut, first_open, opened}
use denote.Bor.{Bor}
use Rattle.std.specs.Prelude.{Option, Some, None, MatchOption, ◌≢◌}
use Rattle.std.specs.Array.{IsWholeChunk}
use Rattle.cells.specs.Lent.{lent}

-- of a set that has passed its door, what lies there as an array, or no bytes
pub lent_is : (set : List ℕ) (o : Option (Bor (List ℕ))) → is_set set ≡ true → MatchOption o (length set ≢ set_bytes) (λ y. IsWholeChunk set y.now set_bytes) → lent o ≡ set
lent_is set (Some s) e h = h.same
lent_is set None e h = ⊎_elim (λ z. sym (nil_from_length set (eqb-true _ _ z))) (λ w. absurd (h (eqb-true _ _ w))) ((either_true {s = eqb (length set) 0}).0 e)

module _ (l : Lent) (m : Machine) (im : List ℕ) (b : ℕ) where
  away : (why : Refusal) → refusal_number why ≡ run_door l m im b → {r : Ran} → r ≡ uncounted m (refusal_number why) → PromiseRun l m im b r im
  unfolding run_call
  away why ed e = rw (← ed, ne_eqb _ _ (some_number why), e)

  pub turned_away_is : (why : Refusal) → refusal_number why ≡ lent_door l.file im → {r : Ran} → r ≡ uncounted m (refusal_number why) → PromiseRun l m im b r im
  turned_away_is why el e = away why (first_shut l m im b el (some_number why)) e

  module _ (z : 0 ≡ lent_door l.file im) where
    pub turned_away_then : (why : Refusal) → refusal_number why ≡ asked_door m b l.set → {r : Ran} → r ≡ uncounted m (refusal_number why) → PromiseRun l m im b r im
    turned_away_then why ea e = away why (first_open l m im b z refl ea) e

    module _ (y : 0 ≡ asked_door m b l.set) where
      open_door : run_door l m im b ≡ 0
      open_door = sym (first_open l m im b z refl y)

      -- what a run may take for granted
      pub granted : (length im ≡ image_bytes) × (ranged m ≡ true) × (b ≤ 1000000) × (is_set l.set ≡ true)
      granted = let o = opened l m im b open_door in (o.0, o.1, o.2, o.3)

      -- the image and the set as arrays hold the same bytes
      pub ran : {im' : List ℕ} → im' ≡ im → {set : List ℕ} → set ≡ l.set → {r : Ran} {im'' : List ℕ} → left r im'' ≡ answered (run (given (lending l.file set)) b (begun m im')) → PromiseRun l m im b r im''
      unfolding run_call
      ran s k e = rw (eq-eqb _ _ open_door) (rw (s, k) at e)
