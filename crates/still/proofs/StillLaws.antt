-- The calls that make no step, a law for each way that one ends: what holds there, and that its outcome is the promised one.
use Prim.Native.Nat.{ℕ}
use mathlib.Core.List.{List}
use mathlib.Core.Path.{◌≡◌, refl, sym, ap, ◌∙◌}
use lib.ListN.{length}
use borrow.Author.Tests.{eq-eqb, ne_eqb}
use native.Mathlib.Omega.{arith}
use Rattle.std.specs.Prelude.{Option, Some, None, Result, Ok, Err, is_ok, ok_or}
use Rattle.definition.specs.Choice.{first_of}
use Rattle.definition.specs.Image.{square, image_bytes, in_field, digit_at}
use Rattle.definition.specs.Calls.{image_doors, field_doors, clear_call, read_call, read_of}
use Rattle.definition.specs.Promises.{PromiseClear, PromiseRead}
use Rattle.definition.proofs.Exactly.{apart}
use Rattle.definition.specs.declared.Pixel.{Pixel}
use Rattle.definition.specs.declared.Refusal.{Refusal}
use Rattle.definition.specs.declared.Refusal.TheVariants.{BadImage, Outside}
use Rattle.units.specs.Answers.{index_in}
use Rattle.units.proofs.AnswerLaws.{index_at, index_outside}
use Rattle.image.specs.Drawn.{cleared}
use Rattle.image.proofs.StoredLaws.{cleared_is_blank}

-- ---- clear
module _ (im : List ℕ) where
  pub not_cleared : (length im ≡ image_bytes → ⊥) → PromiseClear im 11 im
  unfolding clear_call first_of image_doors
  not_cleared p = rw (ne_eqb _ _ p)

  pub all_cleared : length im ≡ image_bytes → {im' : List ℕ} → im' ≡ cleared im → PromiseClear im 0 im'
  unfolding clear_call first_of image_doors
  all_cleared p e = rw (eq-eqb _ _ p, e, cleared_is_blank im p)

-- ---- read
-- what stands for an index that there may be, or for a refusal
module _ {o : Option ℕ} {why : Refusal} {r : Result ℕ Refusal} (e : r ≡ ok_or o why) where
  pub missing : {d : Refusal} → r ≡ Err d → (o ≡ None) × (d ≡ why)
  missing {d} k = go o (sym e ∙ k)
    where
      go : (o : Option ℕ) → ok_or o why ≡ Err d → (o ≡ None) × (d ≡ why)
      go None q = (refl, grind arith)
      go (Some x) q = absurd (apart (ap is_ok q))

pub there : {o : Option ℕ} (why : Refusal) {r : Result ℕ Refusal} {x : ℕ} → r ≡ ok_or o why → r ≡ Ok x → o ≡ Some x
there why e k = grind arith

module _ (im : List ℕ) (p : Pixel) where
  pub no_image : (length im ≡ image_bytes → ⊥) → PromiseRead im p (read_of (Err BadImage))
  unfolding read_call first_of image_doors
  no_image w = rw (ne_eqb _ _ w)

  module _ (whole : length im ≡ image_bytes) {gx : Option ℕ} (ex : gx ≡ index_in 512 p.x) where
    pub beside : gx ≡ None → PromiseRead im p (read_of (Err Outside))
    unfolding read_call first_of image_doors field_doors in_field
    beside o = rw (eq-eqb _ _ whole, index_outside 512 p.x (sym ex ∙ o))

    module _ {x : ℕ} (ax : gx ≡ Some x) {gy : Option ℕ} (ey : gy ≡ index_in 512 p.y) where
      pub above : gy ≡ None → PromiseRead im p (read_of (Err Outside))
      unfolding read_call first_of image_doors field_doors in_field
      above o = rw (eq-eqb _ _ whole, (index_at 512 p.x (sym ex ∙ ax)).0, index_outside 512 p.y (sym ey ∙ o))

      pub read_in : {y d : ℕ} → gy ≡ Some y → d ≡ digit_at square im x y → PromiseRead im p (read_of (Ok d))
      unfolding read_call first_of image_doors field_doors in_field
      read_in ay e =
          let ix = index_at 512 p.x (sym ex ∙ ax) in
          let iy = index_at 512 p.y (sym ey ∙ ay) in
          rw (eq-eqb _ _ whole, ix.0, iy.0, ix.1, iy.1, e)
