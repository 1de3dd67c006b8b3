-- A lit vector, and from where it ends the vector back: the position is back, and the same pixels are stored in the reverse order.
use Prim.Native.Nat.{ℕ}
use mathlib.Core.Bool.{Bool, true, false}
use mathlib.Core.List.{List, [], reverse}
use mathlib.Core.Path.{◌≡◌, refl, sym, ap, subst, ◌∙◌}
use mathlib.Core.Logic.{◌⊎◌, ⊎_elim}
use lib.ListN.{length}
use lib.IntN.{neg_ℤ, ◌+ℤ◌}
use Rattle.whole.specs.Parts.{whole, add, neg}
use Rattle.definition.specs.Choice.{pick}
use Rattle.definition.specs.Units.{units, moved}
use Rattle.definition.specs.Image.{image_bytes, pixel_at, inside, stores}
use Rattle.definition.specs.Words.{long}
use Rattle.definition.specs.Vector.{vector}
use Rattle.definition.specs.Machine.{with_counter, with_position, past, shape_of, pen_of}
use Rattle.definition.specs.Step.{vector_by, done, Given, instruction, refusal, Step, completes, step}
use Rattle.definition.specs.declared.Units.{Units}
use Rattle.definition.specs.declared.Pixel.{Pixel}
use Rattle.definition.specs.declared.Machine.{Machine}
use Rattle.definition.specs.declared.Item.TheVariants.{ShortVector, LongVector}
use Rattle.definition.specs.declared.Instruction.{Instruction}
use Rattle.definition.specs.declared.Instruction.TheVariants.{Draws}
use Rattle.definition.proofs.StepLaws.{step_done}
use Rattle.definition.proofs.StoreLaws.{inside_reverse, stores_reverse}
use Rattle.demands.specs.Conditions.{Fits, more}
use Rattle.demands.specs.Graphs.{shown}
use Rattle.demands.specs.Strokes.{negated}
use Rattle.demands.proofs.Kept.{pen_fits}
use Rattle.demands.proofs.Members.{in_reverse}
use Rattle.demands.proofs.OnePen.{stores_again}
use Rattle.demands.proofs.Vectors.{vector_turned}

-- a lit vector by (dx, dy) is the instruction at the machine's counter, short or long
abbrev pub VectorBy : Given → Machine → Units → Units → Type 0
VectorBy g m dx dy = (instruction g m ≡ Draws true (ShortVector dx dy)) ⊎ ((instruction g m ≡ Draws true (LongVector dx)) × (long (more g m) ≡ dy))

-- ---- one vector
module _ (g : Given) (m : Machine) (dx dy : Units) (free : refusal g m ≡ 0) (is : VectorBy g m dx dy) where
  -- what holds of the short vector completed and of the long one holds of the step
  by_kind : (Q : Step → Type 0) → Q (completes g m (Draws true (ShortVector dx dy)) (more g m)) → (long (more g m) ≡ dy → Q (completes g m (Draws true (LongVector dx)) (more g m))) → Q (step g m)
  by_kind Q p q = ⊎_elim (λ e. known e p) (λ w. known w.0 (q w.1)) is
    where
      known : {i : Instruction} → instruction g m ≡ i → Q (completes g m i (more g m)) → Q (step g m)
      known e h = subst Q (sym (step_done g m free ∙ ap (λ (i : Instruction). completes g m i (more g m)) e)) h

  after_x : (step g m).machine.x ≡ moved m.x dx
  unfolding done
  after_x = by_kind (λ t. t.machine.x ≡ moved m.x dx) refl (λ e. refl)

  after_y : (step g m).machine.y ≡ moved m.y dy
  unfolding done
  after_y = by_kind (λ t. t.machine.y ≡ moved m.y dy) refl (λ e. ap (moved m.y) e)

  after_pen : ((step g m).machine.value ≡ m.value) × ((step g m).machine.write ≡ m.write)
  unfolding done
  after_pen = by_kind (λ t. (t.machine.value ≡ m.value) × (t.machine.write ≡ m.write)) (refl, refl) (λ e. (refl, refl))

  pub after_machine : (step g m).machine ≡ with_position (with_counter m (step g m).machine.counter) (moved m.x dx) (moved m.y dy)
  unfolding done
  after_machine =
      by_kind (λ t. t.machine ≡ with_position (with_counter m t.machine.counter) (moved m.x dx) (moved m.y dy)) refl
      (λ e. ap (λ (d : Units). with_position (with_counter m (past 2 m.counter)) (moved m.x dx) (moved m.y d)) e)

  its_pixels : (step g m).pixels ≡ shown m (vector_by m dx dy)
  its_pixels = by_kind (λ t. t.pixels ≡ shown m (vector_by m dx dy)) refl (λ e. ap (λ (d : Units). shown m (vector_by m dx d)) e)

-- ---- there and back
pub back_again : (u d : Units) → moved (moved u d) (negated d) ≡ u
unfolding moved
back_again u d = ap units (omega (whole, add u.0 d.0, neg d.0, add (u.0 +ℤ d.0) (neg_ℤ d.0)))

shown_reverse : (m : Machine) (ps : List Pixel) → shown m (reverse ps) ≡ reverse (shown m ps)
shown_reverse m ps = go m.write
  where
    go : (on : Bool) → pick on (inside (shape_of m) (reverse ps)) [] ≡ reverse (pick on (inside (shape_of m) ps) [])
    go true = inside_reverse (shape_of m) ps
    go false = refl

-- the pixels of the way back, from a machine at the vector's end
back_pixels : (m m' : Machine) (dx dy : Units) → m'.x ≡ moved m.x dx → m'.y ≡ moved m.y dy → vector_by m' (negated dx) (negated dy) ≡ reverse (vector_by m dx dy)
back_pixels m m' dx dy ex ey =
    ap (λ (u : Units). vector (pixel_at (shape_of m) u m'.y) (pixel_at (shape_of m) (moved u (negated dx)) (moved m'.y (negated dy)))) ex
    ∙ ap (λ (u : Units). vector (pixel_at (shape_of m) (moved m.x dx) u) (pixel_at (shape_of m) (moved (moved m.x dx) (negated dx)) (moved u (negated dy)))) ey
    ∙ rw (back_again m.x dx, back_again m.y dy)
    (vector_turned (pixel_at (shape_of m) m.x m.y) (pixel_at (shape_of m) (moved m.x dx) (moved m.y dy)))

module _ (g : Given) (m : Machine) (dx dy : Units) (free : refusal g m ≡ 0) (is : VectorBy g m dx dy)
    (free_back : refusal g (step g m).machine ≡ 0) (is_back : VectorBy g (step g m).machine (negated dx) (negated dy)) where
  abbrev m' : Machine
  m' = (step g m).machine

  -- the machine is as before, but for its counter
  pub back_machine : (step g m').machine ≡ with_counter m (step g m').machine.counter
  back_machine =
      let c = (step g m').machine.counter in
      after_machine g m' (negated dx) (negated dy) free_back is_back
      ∙ ap (λ (n : Machine). with_position (with_counter n c) (moved n.x (negated dx)) (moved n.y (negated dy))) (after_machine g m dx dy free is)
      ∙ ap (λ (u : Units). with_position (with_counter m c) u (moved (moved m.y dy) (negated dy))) (back_again m.x dx)
      ∙ ap (with_position (with_counter m c) m.x) (back_again m.y dy)

  pub back_stores : (step g m').pixels ≡ reverse (step g m).pixels
  back_stores =
      its_pixels g m' (negated dx) (negated dy) free_back is_back
      ∙ ap (shown m') (back_pixels m m' dx dy (after_x g m dx dy free is) (after_y g m dx dy free is))
      ∙ ap (λ (on : Bool). pick on (inside (shape_of m) (reverse (vector_by m dx dy))) []) (after_pen g m dx dy free is).1
      ∙ shown_reverse m (vector_by m dx dy)
      ∙ sym (ap reverse (its_pixels g m dx dy free is))

  pub back_image : Fits m → (im : List ℕ) → stores (shape_of m') (pen_of m') im (step g m').pixels ≡ stores (shape_of m) (pen_of m) im (step g m).pixels
  back_image f im =
      ap (λ (v : ℕ). stores (shape_of m) (λ old. v) im (step g m').pixels) (after_pen g m dx dy free is).0
      ∙ ap (stores (shape_of m) (pen_of m) im) back_stores
      ∙ stores_reverse (shape_of m) (pen_of m) (pen_fits m f) im (step g m).pixels

  -- and over the vector itself they change nothing
  pub back_over : Fits m → (im : List ℕ) → length im ≡ image_bytes
      → stores (shape_of m') (pen_of m') (stores (shape_of m) (pen_of m) im (step g m).pixels) (step g m').pixels ≡ stores (shape_of m) (pen_of m) im (step g m).pixels
  unfolding stores
  back_over f im l =
      ap (λ (v : ℕ). stores (shape_of m) (λ old. v) (stores (shape_of m) (pen_of m) im (step g m).pixels) (step g m').pixels) (after_pen g m dx dy free is).0
      ∙ rw (back_stores, its_pixels g m dx dy free is) (ap (stores (shape_of m) (pen_of m) (stores (shape_of m) (pen_of m) im (shown m ps))) (sym (shown_reverse m ps)) ∙ go m.write)
    where
      ps : List Pixel
      ps = vector_by m dx dy

      go : (on : Bool) → stores (shape_of m) (pen_of m) (stores (shape_of m) (pen_of m) im (pick on (inside (shape_of m) ps) [])) (pick on (inside (shape_of m) (reverse ps)) [])
          ≡ stores (shape_of m) (pen_of m) im (pick on (inside (shape_of m) ps) [])
      go true = stores_again m f im l ps (reverse ps) (λ q k. in_reverse q ps k)
      go false = refl
