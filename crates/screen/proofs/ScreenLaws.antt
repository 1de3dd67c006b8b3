-- The screen of an input: refused by 19, or else what the run of its words leaves.
use Prim.Native.Nat.{ℕ, ◌%◌, ◌≤◌, ◌<◌}
use mathlib.Core.Bool.{Bool, true, false, not, ◌||◌}
use mathlib.Core.List.{List}
use mathlib.Core.Path.{◌≡◌, refl, ap, ◌∙◌}
use lib.Dec.{eqb}
use lib.ListN.{length}
use borrow.Author.Tests.{lt-ltb, le-ltb, eq-eqb, ne_eqb}
use Rattle.definition.specs.Choice.{first_of}
use Rattle.definition.specs.Image.{image_bytes, blank, Left, left}
use Rattle.image.specs.Drawn.{cleared}
use Rattle.image.proofs.StoredLaws.{cleared_is_blank}
use Rattle.definition.specs.Machine.{fresh}
use Rattle.definition.specs.Calls.{lending, run_call}
use Rattle.definition.specs.Plot.{words_in, input_doors}
use Rattle.definition.specs.declared.Machine.{Machine}
use Rattle.definition.specs.declared.Ran.{Ran}
use Rattle.screen.specs.Screen.{drawing}

module _ (bytes : List ℕ) (budget : ℕ) (set : List ℕ) {image : List ℕ} (before : List ℕ) (cleared_now : image ≡ cleared before) (whole : length before ≡ image_bytes) where
  e : image ≡ blank
  e = cleared_now ∙ cleared_is_blank before whole

  pub odd : {n : ℕ} → n ≡ 19 → (length bytes % 2 ≡ 0 → ⊥) → left n image ≡ drawing bytes budget set
  unfolding drawing input_doors first_of
  odd is19 p = rw (is19, ne_eqb _ _ p, e)

  pub too_long : {n : ℕ} → n ≡ 19 → 65536 < length bytes → left n image ≡ drawing bytes budget set
  unfolding drawing input_doors first_of
  too_long is19 p = rw (is19, lt-ltb _ _ p, whichever (not (eqb (length bytes % 2) 0)), e)
    where
      whichever : (t : Bool) → t || true ≡ true
      whichever true = refl
      whichever false = refl

  pub ran : length bytes % 2 ≡ 0 → length bytes ≤ 65536 → {f after : List ℕ} {m : Machine} {r : Ran}
      → f ≡ words_in bytes → m ≡ fresh → left r after ≡ run_call (lending f set) m image budget → left r.answer after ≡ drawing bytes budget set
  unfolding drawing input_doors first_of
  ran even p ef em er =
      rw (eq-eqb _ _ even, le-ltb _ _ p) (ap (λ (l : Left Ran). left l.result.answer l.image) (rw (ef, em, e) at er))
