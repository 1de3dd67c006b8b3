-- The answers of start, clear and read-pixel, and of `plot`, each exactly when.
use Prim.Native.Nat.{ℕ, ◌≤◌, ◌<◌, ◌%◌}
use mathlib.Core.List.{List, [], ◌∷◌, ◌++◌}
use mathlib.Core.Bool.{Bool, true, false}
use mathlib.Core.Path.{◌≡◌, refl, sym, ap, ◌∙◌}
use mathlib.Core.Logic.{◌⊎◌, ◌↔◌}
use native.Mathlib.Omega.{arith}
use native.Mathlib.Decide.{ℕ_discrete}
use lib.ListN.{length}
use lib.IntN.{ℤ, pos, nat_abs}
use borrow.Author.Tests.{eq-eqb, ne_eqb, le-ltb}
use Rattle.definition.specs.Choice.{first_of}
use Rattle.definition.specs.Image.{Shape, Left, image_bytes, blank, in_field, digit_at, left}
use Rattle.definition.specs.Machine.{fresh, started_at, in_range, is_mode, is_status, ranged, machine_doors}
use Rattle.definition.specs.File.{head_doors, segment_doors, file_doors}
use Rattle.definition.specs.Calls.{Started, Read, image_doors, budget_doors, set_doors, running_doors, field_doors, check_call, start_call, clear_call, read_call, plain, run_doors, run_call}
use Rattle.definition.specs.Plot.{words_in, input_doors, plot_budget, ran_line, refused_line, plot_line}
use Rattle.definition.specs.declared.Pixel.{Pixel}
use Rattle.definition.specs.declared.Machine.{Machine}
use Rattle.definition.proofs.Exactly.{exactly, none_holds}
use Rattle.definition.proofs.Plain.{◌so◌, ◌and◌, ◌or◌, itself, is_less, is_equal, not_equal, not_true, not_false, either_true, failing, never}
use Rattle.demands.specs.Conditions.{Fits, InField}
use Rattle.demands.specs.Strokes.{seen}
use Rattle.demands.proofs.Kept.{fits}
use Rattle.demands.proofs.Members.{in_field_is}
use Rattle.demands.proofs.CallAnswers.{never_19}

-- ---- start
module _ (m : Machine) (a : ℕ) where
  pub start_0 : (start_call m a ≡ record { answer = 0; machine = started_at m a }) ↔ Fits m
  unfolding start_call machine_doors
  start_0 = (λ e. given.0 (ap (λ (r : Started). r.answer) e), λ f. rw (given.1 f))
    where
      given : (first_of (machine_doors m) ≡ 0) ↔ Fits m
      given = none_holds (machine_doors m) refl so (not_false so fits m) and itself so (λ w. w.0, λ f. (f, tt))

  pub start_16 : (start_call m a ≡ record { answer = 16; machine = m }) ↔ (Fits m → ⊥)
  unfolding start_call machine_doors
  start_16 = (λ e. given.0 (ap (λ (r : Started). r.answer) e), λ h. rw (given.1 h))
    where
      given : (first_of (machine_doors m) ≡ 16) ↔ (Fits m → ⊥)
      given = exactly 16 (machine_doors m) (omega arith) so not_true so failing so never (fits m)

-- ---- clear
module _ (im : List ℕ) where
  pub clear_0 : (clear_call im ≡ left 0 blank) ↔ (length im ≡ image_bytes)
  unfolding clear_call image_doors
  clear_0 = (λ e. given.0 (ap (λ (r : Left ℕ). r.result) e), λ h. rw (given.1 h))
    where
      given : (first_of (image_doors im) ≡ 0) ↔ (length im ≡ image_bytes)
      given = none_holds (image_doors im) refl so (not_false so is_equal) and itself so (λ w. w.0, λ h. (h, tt))

  pub clear_11 : (clear_call im ≡ left 11 im) ↔ (length im ≡ image_bytes → ⊥)
  unfolding clear_call image_doors
  clear_11 = (λ e. given.0 (ap (λ (r : Left ℕ). r.result) e), λ h. rw (given.1 h))
    where
      given : (first_of (image_doors im) ≡ 11) ↔ (length im ≡ image_bytes → ⊥)
      given = exactly 11 (image_doors im) (omega arith) so not_true so not_equal

-- ---- read-pixel
module _ (s : Shape) (im : List ℕ) (p : Pixel) where
  pub read_11 : (read_call s im p ≡ record { answer = 11; digit = 0 }) ↔ (length im ≡ image_bytes → ⊥)
  unfolding read_call image_doors field_doors
  read_11 = (λ e. given.0 (ap (λ (r : Read). r.answer) e), λ h. rw (given.1 h))
    where
      given : (first_of (image_doors im ++ field_doors s p) ≡ 11) ↔ (length im ≡ image_bytes → ⊥)
      given = exactly 11 (image_doors im ++ field_doors s p) (omega arith) so not_true so not_equal

  pub read_31 : (read_call s im p ≡ record { answer = 31; digit = 0 }) ↔ ((length im ≡ image_bytes) × (InField s p → ⊥))
  unfolding read_call image_doors field_doors
  read_31 = (λ e. given.0 (ap (λ (r : Read). r.answer) e), λ h. rw (given.1 h))
    where
      given : (first_of (image_doors im ++ field_doors s p) ≡ 31) ↔ ((length im ≡ image_bytes) × (InField s p → ⊥))
      given = exactly 31 (image_doors im ++ field_doors s p) (omega arith) so (not_false so is_equal) and (not_true so failing so never (in_field_is s p))

  pub read_0 : (read_call s im p ≡ record { answer = 0; digit = digit_at s im (nat_abs p.x.0) (nat_abs p.y.0) }) ↔ ((length im ≡ image_bytes) × InField s p)
  unfolding read_call image_doors field_doors
  read_0 = (λ e. given.0 (ap (λ (r : Read). r.answer) e), λ h. rw (given.1 h))
    where
      given : (first_of (image_doors im ++ field_doors s p) ≡ 0) ↔ ((length im ≡ image_bytes) × InField s p)
      given =
          none_holds (image_doors im ++ field_doors s p) refl so (not_false so is_equal) and (not_false so in_field_is s p) and itself
          so (λ w. (w.0, w.1.0), λ w. (w.0, (w.1, tt)))

-- a pixel reads alike in two images of one length, where its digit is the same in both
pub reads_alike : (s : Shape) (im im' : List ℕ) (p : Pixel) → length im' ≡ length im → (length im ≡ image_bytes → InField s p → seen s im' p ≡ seen s im p) → read_call s im' p ≡ read_call s im p
reads_alike s im im' p l h = go (ℕ_discrete (length im) image_bytes) (in_field s p) refl
  where
    go : Dec (length im ≡ image_bytes) → (b : Bool) → in_field s p ≡ b → read_call s im' p ≡ read_call s im p
    go (no n) b e = (read_11 s im' p).1 (λ k. n (sym l ∙ k)) ∙ sym ((read_11 s im p).1 n)
    go (yes k) true e =
        let f = (in_field_is s p).0 e in
        (read_0 s im' p).1 (l ∙ k, f) ∙ ap (λ (d : ℕ). let r : Read = record { answer = 0; digit = d } in r) (h k f) ∙ sym ((read_0 s im p).1 (k, f))
    go (yes k) false e = let n : InField s p → ⊥ = λ f. failing.0 e ((in_field_is s p).1 f) in (read_31 s im' p).1 (l ∙ k, n) ∙ sym ((read_31 s im p).1 (k, n))

-- ---- plot
same : {a b : ℕ} → pos a ≡ pos b → a ≡ b
same e = cc

module _ (bytes : List ℕ) where
  abbrev number : ℕ
  number = first_of (input_doors bytes ++ run_doors (plain (words_in bytes)) fresh blank plot_budget)

  input_19 : (number ≡ 19) ↔ ((length bytes % 2 ≡ 0 → ⊥) ⊎ (65536 < length bytes))
  unfolding input_doors run_doors image_doors file_doors head_doors segment_doors machine_doors budget_doors set_doors running_doors
  input_19 = exactly 19 (input_doors bytes ++ run_doors (plain (words_in bytes)) fresh blank plot_budget) (omega arith) so either_true so (not_true so not_equal) or is_less

  -- the first number of the line
  abbrev head : List ℤ → ℤ
  head [] = pos 0
  head (z ∷ zs) = z

  pub plot_19 : (plot_line bytes ≡ refused_line 19) ↔ ((length bytes % 2 ≡ 0 → ⊥) ⊎ (65536 < length bytes))
  unfolding plot_line
  plot_19 = (λ e. input_19.0 (go (ℕ_discrete number 0) e), λ h. rw (input_19.1 h))
    where
      go : Dec (number ≡ 0) → plot_line bytes ≡ refused_line 19 → number ≡ 19
      go (no h) e = same (ap head (rw (ne_eqb _ _ h) at e))
      go (yes z) e = absurd (never_19 (plain (words_in bytes)) fresh blank plot_budget (same (ap head (rw (eq-eqb _ _ z) at e))))

-- else the line is that of the file's doors, or of the run: no other door can speak
module _ (bytes : List ℕ) (even : length bytes % 2 ≡ 0) (few : length bytes ≤ 65536) where
  abbrev f : List ℕ
  f = words_in bytes

  by_check : number bytes ≡ check_call f
  unfolding check_call input_doors run_doors image_doors file_doors head_doors segment_doors machine_doors budget_doors set_doors running_doors ranged in_range is_mode is_status first_of
  by_check = rw (eq-eqb _ _ even, le-ltb _ _ few)

  pub plot_door : (check_call f ≡ 0 → ⊥) → plot_line bytes ≡ refused_line (check_call f)
  unfolding plot_line
  plot_door h = rw (by_check, ne_eqb _ _ h)

  pub plot_run : check_call f ≡ 0 → plot_line bytes ≡ ran_line (run_call (plain f) fresh blank plot_budget).result
  unfolding plot_line
  plot_run e = rw (by_check, eq-eqb _ _ e)
