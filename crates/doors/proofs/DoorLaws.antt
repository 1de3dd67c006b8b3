-- The doors of a run: the two parts as one, and what an answer of 0 says.
use Prim.Native.Nat.{ℕ, ◌≤◌}
use mathlib.Core.Bool.{Bool, true, false, ◌||◌}
use mathlib.Core.List.{List, ◌++◌}
use mathlib.Core.Path.{◌≡◌, refl, sym, ◌∙◌}
use lib.Dec.{eqb}
use lib.ListN.{length}
use borrow.Author.Tests.{ltb-false, eqb-true, not-false}
use Rattle.definition.specs.Choice.{pick, first_of}
use Rattle.definition.specs.Image.{image_bytes}
use Rattle.definition.specs.File.{file_doors, head_doors, segment_doors}
use Rattle.definition.specs.Machine.{ranged, machine_doors}
use Rattle.definition.specs.BuiltIn.{built_in}
use Rattle.definition.specs.Characters.{set_bytes, chosen}
use Rattle.definition.specs.Calls.{image_doors, budget_doors, set_doors, running_doors, Lent, run_doors, run_door}
use Rattle.definition.specs.declared.Machine.{Machine}
use Rattle.definition.proofs.Characters.{built_in_length}
use Rattle.definition.proofs.Exactly.{passes, stops, Fails, fails}
use Rattle.doors.specs.Doors.{lent_doors, lent_door, asked_doors, asked_door}

-- ---- the set
abbrev pub is_set : List ℕ → Bool
is_set set = eqb (length set) 0 || eqb (length set) set_bytes

serves : (set : List ℕ) → is_set set ≡ true → length (chosen set built_in) ≡ set_bytes
unfolding chosen
serves set e = go (eqb (length set) 0) e
  where
    go : (t : Bool) → t || eqb (length set) set_bytes ≡ true → length (pick t built_in set) ≡ set_bytes
    go true h = built_in_length
    go false h = eqb-true _ _ h

-- ---- both, one after the other
module _ (l : Lent) (m : Machine) (im : List ℕ) (b : ℕ) {n : ℕ} (en : n ≡ lent_door l.file im) where
  both_parts : run_door l m im b ≡ first_of (lent_doors l.file im ++ asked_doors m b l.set)
  unfolding run_door run_doors lent_doors asked_doors image_doors
  both_parts = refl

  pub first_shut : (n ≡ 0 → ⊥) → n ≡ run_door l m im b
  first_shut h = sym (both_parts ∙ stops (lent_doors l.file im) (asked_doors m b l.set) (λ z. h (en ∙ z)) ∙ sym en)

  pub first_open : n ≡ 0 → {k : ℕ} → k ≡ asked_door m b l.set → k ≡ run_door l m im b
  unfolding lent_doors image_doors file_doors head_doors segment_doors
  first_open z e = e ∙ sym (both_parts ∙ passes (lent_doors l.file im) (asked_doors m b l.set) refl (sym en ∙ z))

-- what a run may take for granted
pub opened : (l : Lent) (m : Machine) (im : List ℕ) (b : ℕ) → run_door l m im b ≡ 0
    → (length im ≡ image_bytes) × (ranged m ≡ true) × (b ≤ 1000000) × (is_set l.set ≡ true) × (length (chosen l.set built_in) ≡ set_bytes) × (m.status ≡ 0)
unfolding run_door run_doors image_doors file_doors head_doors segment_doors machine_doors budget_doors set_doors running_doors
opened l m im b z =
    let passed : (n : ℕ) → Fails n (run_doors l m im b) = λ n. fails n (run_doors l m im b) refl z in
    (eqb-true _ _ (not-false _ (passed 11)), not-false _ (passed 16), ltb-false _ _ (passed 17), not-false _ (passed 18), serves l.set (not-false _ (passed 18)), eqb-true _ _ (not-false _ (passed 28)))
