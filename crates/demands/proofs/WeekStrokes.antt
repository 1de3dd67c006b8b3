-- Graph words as strokes: the places of the lit ones, in the order of the words, each stored with the pen of the machine before the first.
use Prim.Native.Nat.{ℕ}
use mathlib.Core.List.{List, [], ◌∷◌, ◌++◌}
use mathlib.Core.Path.{◌≡◌, refl, sym, ap, ◌∙◌}
use mathlib.Core.Logic.{⊎_elim}
use lib.ListN.{length}
use Rattle.definition.specs.Units.{moved}
use Rattle.definition.specs.Words.{bit, coordinate}
use Rattle.definition.specs.Machine.{shape_of, pen_of}
use Rattle.definition.specs.Step.{Given, Step, step}
use Rattle.definition.specs.Run.{State}
use Rattle.definition.specs.declared.Pixel.{Pixel}
use Rattle.definition.specs.declared.Machine.{Machine}
use Rattle.demands.specs.Conditions.{Among}
use Rattle.demands.specs.Graphs.{Axis, AlongX, AlongY, stepped, pixel_on, weeks, of_lit, shown, Ready}
use Rattle.demands.specs.Strokes.{Stroke, strokes_of, strokes, stroke_pixels}
use Rattle.demands.proofs.Members.{in_append, in_strokes}
use Rattle.demands.proofs.Origins.{strokes_first, strokes_zero}
use Rattle.demands.proofs.Graphs.{mark, begins, one_step, one_word, shown_append, shown_none, shift, from_here, mark_first, first_fits, still_ready}

-- ---- the pixels of strokes
pixels_append : (ts us : List Stroke) → stroke_pixels (ts ++ us) ≡ stroke_pixels ts ++ stroke_pixels us
pixels_append [] us = refl
pixels_append (t ∷ ts) us = ap (λ (ps : List Pixel). t.pixel ∷ ps) (pixels_append ts us)

pixels_back : (m : Machine) (ps : List Pixel) → stroke_pixels (strokes_of m ps) ≡ ps
pixels_back m [] = refl
pixels_back m (p ∷ ps) = ap (λ (qs : List Pixel). p ∷ qs) (pixels_back m ps)

-- ---- the first word, and the rest from there
abbrev place : Axis → Machine → ℕ → Pixel
place axis m w = pixel_on axis (shape_of m) (stepped axis m) (coordinate w)

abbrev lit : Axis → Machine → List ℕ → List Pixel
lit axis m ws = shown m (of_lit ws (weeks axis (shape_of m) (stepped axis m).0 m.increment 0 ws))

-- a word keeps what a store is made with
same_ink : (axis : Axis) (s : State) (w : ℕ) → (shape_of (begins axis s w).machine ≡ shape_of s.machine) × (pen_of (begins axis s w).machine ≡ pen_of s.machine)
same_ink AlongX s w = (refl, refl)
same_ink AlongY s w = (refl, refl)

-- the marks of all words are that of the first, and then those of the others
lit_first : (axis : Axis) (s : State) (w : ℕ) (ws : List ℕ) → shown s.machine (mark w (place axis s.machine w)) ++ lit axis (begins axis s w).machine ws ≡ lit axis s.machine (w ∷ ws)
unfolding moved
lit_first AlongX s w ws =
    let m = s.machine in
    sym (shown_append m (mark w (place AlongX m w)) (of_lit ws (weeks AlongX (shape_of m) (begins AlongX s w).machine.x.0 m.increment 0 ws)))
    ∙ rw (shift AlongX (shape_of m) m.x.0 m.increment 0 ws, from_here m.x.0 m.increment) (ap (shown m) (mark_first (bit 14 w) (place AlongX m w) (of_lit ws (weeks AlongX (shape_of m) m.x.0 m.increment 1 ws))))
lit_first AlongY s w ws =
    let m = s.machine in
    sym (shown_append m (mark w (place AlongY m w)) (of_lit ws (weeks AlongY (shape_of m) (begins AlongY s w).machine.y.0 m.increment 0 ws)))
    ∙ rw (shift AlongY (shape_of m) m.y.0 m.increment 0 ws, from_here m.y.0 m.increment) (ap (shown m) (mark_first (bit 14 w) (place AlongY m w) (of_lit ws (weeks AlongY (shape_of m) m.y.0 m.increment 1 ws))))

module _ (axis : Axis) (g : Given) where
  turn : (s : State) (w : ℕ) (ws : List ℕ) → Ready axis g s (w ∷ ws)
      → strokes g (length (w ∷ ws)) s ≡ strokes_of s.machine (shown s.machine (mark w (place axis s.machine w))) ++ strokes g (length ws) (begins axis s w)
  turn s w ws r =
      let f = first_fits axis g s w ws r in
      strokes_first g (length ws) s r.running
      ∙ ap (λ (t : State). strokes_of s.machine (step g s.machine).pixels ++ strokes g (length ws) t) (one_word g s w r.words.0 r.data_words.0 axis r.mode f)
      ∙ ap (λ (t : Step). strokes_of s.machine t.pixels ++ strokes g (length ws) (begins axis s w)) (one_step g s w r.words.0 r.data_words.0 axis r.mode f)

  -- ---- the theorems
  pub week_strokes : (s : State) (ws : List ℕ) → Ready axis g s ws → stroke_pixels (strokes g (length ws) s) ≡ lit axis s.machine ws
  week_strokes s [] r = ap stroke_pixels (strokes_zero g s) ∙ sym (shown_none s.machine)
  week_strokes s (w ∷ ws) r =
      let ps = shown s.machine (mark w (place axis s.machine w)) in
      ap stroke_pixels (turn s w ws r)
      ∙ pixels_append (strokes_of s.machine ps) (strokes g (length ws) (begins axis s w))
      ∙ rw (pixels_back s.machine ps, week_strokes (begins axis s w) ws (still_ready axis g s w ws r)) (lit_first axis s w ws)

  pub week_ink : (s : State) (ws : List ℕ) (t : Stroke) → Ready axis g s ws → Among t (strokes g (length ws) s)
      → (shape_of t.machine ≡ shape_of s.machine) × (pen_of t.machine ≡ pen_of s.machine)
  week_ink s [] t r h = absurd (rw (strokes_zero g s) at h)
  week_ink s (w ∷ ws) t r h =
      let ps = shown s.machine (mark w (place axis s.machine w)) in
      ⊎_elim
      (λ k. let e = ((in_strokes s.machine t ps).0 k).0 in (ap shape_of e, ap pen_of e))
      (λ k. let e = week_ink (begins axis s w) ws t (still_ready axis g s w ws r) k in let q = same_ink axis s w in (e.0 ∙ q.0, e.1 ∙ q.1))
      ((in_append t (strokes_of s.machine ps) (strokes g (length ws) (begins axis s w))).0 (rw (turn s w ws r) at h))
