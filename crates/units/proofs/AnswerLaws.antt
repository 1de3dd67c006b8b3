-- What an answer says of what was asked: where a pixel's coordinate has an index and where not, where a move leads and where it leads out of the range.
use Prim.Native.Nat.{ℕ, ◌<◌}
use mathlib.Core.Bool.{Bool, true, false}
use Rattle.std.specs.Prelude.{Some, None}
use mathlib.Core.Path.{◌≡◌, refl}
use lib.IntN.{pos, nat_abs}
use lib.Signed.{le_z, lt_z}
use Rattle.whole.specs.Parts.{whole, abs}
use Rattle.definition.specs.Choice.{pick}
use Rattle.definition.specs.Units.{moved}
use Rattle.definition.specs.Image.{below}
use Rattle.definition.specs.Machine.{in_range}
use Rattle.definition.specs.declared.Units.{Units}
use Rattle.definition.specs.declared.Pixels.{Pixels}
use Rattle.definition.proofs.Plain.{both_true}
use Rattle.units.specs.Answers.{moved_to, index_in}

-- ---- the index
module _ (n : ℕ) (p : Pixels) where
  pub index_at : {i : ℕ} → index_in n p ≡ Some i → (below n p.0 ≡ true) × (nat_abs p.0 ≡ i)
  unfolding index_in
  index_at {i} = go (below n p.0)
    where
      go : (t : Bool) → pick t (Some (nat_abs p.0)) None ≡ Some i → (t ≡ true) × (nat_abs p.0 ≡ i)
      go true e = (refl, cc)
      go false e = cc

  pub index_below : {i : ℕ} → index_in n p ≡ Some i → i < n
  index_below e =
      let b = (both_true {s = le_z (pos 0) p.0} {t = lt_z p.0 (pos n)}).0 (index_at e).0 in
      omega (whole, abs p.0, (index_at e).1)

  pub index_outside : index_in n p ≡ None → below n p.0 ≡ false
  unfolding index_in
  index_outside = go (below n p.0)
    where
      go : (t : Bool) → pick t (Some (nat_abs p.0)) None ≡ None → t ≡ false
      go true e = cc
      go false e = refl

-- ---- the move
module _ (u by : Units) where
  pub moved_to_is : {v : Units} → moved_to u by ≡ Some v → (in_range (moved u by) ≡ true) × (moved u by ≡ v)
  unfolding moved_to
  moved_to_is {v} = go (in_range (moved u by))
    where
      go : (t : Bool) → pick t (Some (moved u by)) None ≡ Some v → (t ≡ true) × (moved u by ≡ v)
      go true e = (refl, cc)
      go false e = cc

  pub moved_out : moved_to u by ≡ None → in_range (moved u by) ≡ false
  unfolding moved_to
  moved_out = go (in_range (moved u by))
    where
      go : (t : Bool) → pick t (Some (moved u by)) None ≡ None → t ≡ false
      go true e = cc
      go false e = refl
