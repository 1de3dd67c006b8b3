-- Words of a lit vector, and from its end the words of the vector back: neither is refused, and after them the machine is as before, but for its counter.
use Prim.Native.Nat.{ℕ}
use mathlib.Core.Bool.{Bool, true, false, not}
use mathlib.Core.List.{List, reverse}
use mathlib.Core.Path.{◌≡◌, refl, sym, ap, subst, ◌∙◌}
use mathlib.Core.Logic.{inl, inr, ⊎_elim}
use native.Mathlib.Omega.{arith}
use lib.ListN.{length}
use lib.IntN.{pos, neg_ℤ}
use borrow.Author.Tests.{eq-eqb}
use Rattle.whole.specs.Parts.{whole, neg}
use Rattle.definition.specs.Units.{units, moved}
use Rattle.definition.specs.Image.{image_bytes}
use Rattle.definition.specs.Words.{bit, bits, move, short_x, short_y, long}
use Rattle.definition.specs.Machine.{with_counter, with_position}
use Rattle.definition.specs.Step.{way, way_of, changed, Given, instruction, refusal, step}
use Rattle.definition.specs.Step.Change.{Move}
use Rattle.definition.specs.Run.{State, begun, run}
use Rattle.definition.specs.declared.Units.{Units}
use Rattle.definition.specs.declared.Machine.{Machine}
use Rattle.definition.specs.declared.Item.TheVariants.{ShortVector, LongVector}
use Rattle.definition.specs.declared.Instruction.{Instruction}
use Rattle.definition.specs.declared.Instruction.TheVariants.{Draws}
use Rattle.definition.proofs.StepLaws.{on, run_turn}
use Rattle.demands.specs.Conditions.{InRange, Fits, word, more, Continues}
use Rattle.demands.specs.Strokes.{ShortWord, LongWords, VectorWords, negated, Turned}
use Rattle.demands.proofs.Runs.{one_turn}
use Rattle.demands.proofs.Kept.{step_fits}
use Rattle.demands.proofs.StepAnswers.{refused_0}
use Rattle.demands.proofs.MovesOut.{short, longer, one_word, two_words, not_paired}
use Rattle.demands.proofs.Backwards.{VectorBy}
use Rattle.demands.proofs.Backwards as back

-- ---- signs turned
pub turned_move : (n : ℕ) (s s' : Bool) → Turned n s s' → move s' n ≡ negated (move s n)
unfolding move
turned_move n s s' = ⊎_elim (nothing s s') (λ e. rw e (other s))
  where
    nothing : (s s' : Bool) → n ≡ 0 → move s' n ≡ negated (move s n)
    nothing true true e = ap units (omega (whole, neg (pos n), neg (neg_ℤ (pos n))))
    nothing true false e = ap units (omega (whole, neg (pos n), neg (neg_ℤ (pos n))))
    nothing false true e = refl
    nothing false false e = ap units (omega (whole, neg (pos n)))

    other : (s : Bool) → move (not s) n ≡ negated (move s n)
    other true = ap units (omega (whole, neg (pos n), neg (neg_ℤ (pos n))))
    other false = refl

pub turned_short : (w w' : ℕ) → bits 12 7 w' ≡ bits 12 7 w → bits 5 0 w' ≡ bits 5 0 w → Turned (bits 12 7 w) (bit 13 w) (bit 13 w') → Turned (bits 5 0 w) (bit 6 w) (bit 6 w')
    → (short_x w' ≡ negated (short_x w)) × (short_y w' ≡ negated (short_y w))
turned_short w w' ex ey tx ty = (ap (move (bit 13 w')) ex ∙ turned_move (bits 12 7 w) (bit 13 w) (bit 13 w') tx, ap (move (bit 6 w')) ey ∙ turned_move (bits 5 0 w) (bit 6 w) (bit 6 w') ty)

pub turned_long : (w w' : ℕ) → bits 9 0 w' ≡ bits 9 0 w → Turned (bits 9 0 w) (bit 13 w) (bit 13 w') → long w' ≡ negated (long w)
turned_long w w' e t = ap (move (bit 13 w')) e ∙ turned_move (bits 9 0 w) (bit 13 w) (bit 13 w') t

-- ---- words of a lit vector
module _ (g : Given) (m : Machine) (dx dy : Units) where
  -- it is the instruction at the counter
  short_is : ShortWord g m dx dy → instruction g m ≡ Draws true (ShortVector dx dy)
  short_is r =
      short m.mode (word g m) r.data_word r.mode
      ∙ rw (eq-eqb _ _ r.lit, r.across, r.upward)

  long_is : LongWords g m dx dy → instruction g m ≡ Draws true (LongVector dx)
  long_is r =
      longer m.mode (word g m) r.data_word r.mode
      ∙ rw (eq-eqb _ _ r.lit, r.across)

  pub words_are : VectorWords g m dx dy → VectorBy g m dx dy
  words_are = ⊎_elim (λ r. inl (short_is r)) (λ r. inr (long_is r, r.upward))

  -- and it is not refused where its end is in range
  module _ (fits : Fits m) (x_in : InRange (moved m.x dx)) (y_in : InRange (moved m.y dy)) where
    ends_in : (i : Instruction) → instruction g m ≡ i → (way_of m.increment i (more g m) ≡ way (Move dx) (Move dy)) → Continues g m → refusal g m ≡ 0
    ends_in i e w c =
        (refused_0 g m fits).1 (
          c,
          (
            subst (λ (j : Instruction). InRange (changed m.x (way_of m.increment j (more g m)).x)) (sym e) (rw w x_in),
            subst (λ (j : Instruction). InRange (changed m.y (way_of m.increment j (more g m)).y)) (sym e) (rw w y_in),
          ),
        )

    pub words_complete : VectorWords g m dx dy → refusal g m ≡ 0
    words_complete = ⊎_elim
        (λ r. ends_in _ (short_is r) refl ((one_word g m r.data_word (let e = r.mode in omega arith) (let e = r.mode in omega arith) (not_paired g m (λ q. let e = r.mode in omega arith) (λ q. let e = r.mode in omega arith))).1 r.fetched))
        (λ r. ends_in _ (long_is r) (ap (λ (d : Units). way (Move dx) (Move d)) r.upward) ((two_words g m r.data_word (let e = r.mode in omega arith) (let e = r.mode in omega arith) (r.data_word, inl r.mode)).1 (r.fetched, (r.fetched_too, r.data_too))))

-- ---- there and back
module _ (g : Given) (m : Machine) (dx dy : Units) (fits : Fits m) (x_in : InRange (moved m.x dx)) (y_in : InRange (moved m.y dy))
    (there : VectorWords g m dx dy) (turned : VectorWords g (step g m).machine (negated dx) (negated dy)) where
  abbrev m' : Machine
  m' = (step g m).machine

  free : refusal g m ≡ 0
  free = words_complete g m dx dy fits x_in y_in there

  gone : m' ≡ with_position (with_counter m m'.counter) (moved m.x dx) (moved m.y dy)
  gone = back.after_machine g m dx dy free (words_are g m dx dy there)

  free_back : refusal g m' ≡ 0
  free_back =
      words_complete g m' (negated dx) (negated dy) (step_fits g m fits)
      (subst (λ (n : Machine). InRange (moved n.x (negated dx))) (sym gone) (rw (back.back_again m.x dx) fits.x))
      (subst (λ (n : Machine). InRange (moved n.y (negated dy))) (sym gone) (rw (back.back_again m.y dy) fits.y))
      turned

  pub both_complete : (refusal g m ≡ 0) × (refusal g m' ≡ 0)
  both_complete = (free, free_back)

  pub there_and_back : (step g m').machine ≡ with_counter m (step g m').machine.counter
  there_and_back = back.back_machine g m dx dy free (words_are g m dx dy there) free_back (words_are g m' (negated dx) (negated dy) turned)

  pub back_stores : (step g m').pixels ≡ reverse (step g m).pixels
  back_stores = back.back_stores g m dx dy free (words_are g m dx dy there) free_back (words_are g m' (negated dx) (negated dy) turned)

  module _ (running : m.status ≡ 0) (im : List ℕ) where
    still_running : m'.status ≡ 0
    still_running = ap (λ (n : Machine). n.status) gone ∙ running

    -- drawn on the same first image the two leave the same image
    pub back_image : (run g 1 (begun m' im)).image ≡ (run g 1 (begun m im)).image
    back_image =
        ap (λ (s : State). s.image) (one_turn g (begun m' im) still_running)
        ∙ back.back_image g m dx dy free (words_are g m dx dy there) free_back (words_are g m' (negated dx) (negated dy) turned) fits im
        ∙ sym (ap (λ (s : State). s.image) (one_turn g (begun m im) running))

    -- and drawn over the first the way back changes nothing
    pub back_over : length im ≡ image_bytes → (run g 2 (begun m im)).image ≡ (run g 1 (begun m im)).image
    unfolding run
    back_over l =
        ap (λ (s : State). s.image) (run_turn g 1 (begun m im) running ∙ run_turn g 0 (on g (begun m im)) still_running)
        ∙ back.back_over g m dx dy free (words_are g m dx dy there) free_back (words_are g m' (negated dx) (negated dy) turned) fits im l
        ∙ sym (ap (λ (s : State). s.image) (one_turn g (begun m im) running))
