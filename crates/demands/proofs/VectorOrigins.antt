-- A stroke of modes 1 and 2 is a pixel of the vector between the positions before and after its instruction, and lies near the exact line.
use Prim.Native.Nat.{ℕ, zero, suc, ◌≤◌, ◌<◌}
use mathlib.Core.List.{List, [], ◌∷◌}
use mathlib.Core.Path.{◌≡◌, refl, sym, ap, subst, ◌∙◌}
use mathlib.Core.Logic.{◌⊎◌, inl, inr, ⊎_elim}
use native.Mathlib.Omega.{arith}
use native.Mathlib.Numerals.{add-one}
use lib.ListN.{length, get_or}
use Rattle.definition.specs.Image.{square, pixel_at}
use Rattle.definition.specs.Vector.{longer, vector}
use Rattle.definition.specs.Machine.{shape_of}
use Rattle.definition.specs.Step.{Given, step}
use Rattle.definition.specs.Run.{State, run}
use Rattle.definition.specs.declared.Pixel.{Pixel}
use Rattle.definition.specs.declared.Machine.{Machine}
use Rattle.definition.proofs.StepLaws.{on, run_turn}
use Rattle.demands.specs.Conditions.{Among, InField, word}
use Rattle.demands.specs.Strokes.{Stroke, strokes, Lights, lights_between, Plots, vector_between, longer_between, OnVector, LitVector}
use Rattle.demands.proofs.Runs.{run_add}
use Rattle.demands.proofs.Vectors.{vector_point, vector_length, vector_first, vector_last, vector_near, point_near}
use Rattle.demands.proofs.Origins.{stroke_origin}
use Rattle.demands.proofs.Places.{in_words, stroke_in_words}

-- ---- the place of a member
pub in_at : {A : Type 0} (a d : A) (xs : List A) → Among a xs → (i : ℕ) × ((i < length xs) × (get_or xs i d ≡ a))
in_at a d [] h = absurd h
in_at a d (x ∷ xs) h = ⊎_elim (λ e. (0, (omega arith, sym e))) (λ k. let r = in_at a d xs k in (suc r.0, (let l = r.1.0 in omega arith, r.1.1))) h

pub at_in : {A : Type 0} (d : A) (xs : List A) (i : ℕ) → i < length xs → Among (get_or xs i d) xs
at_in d [] i l = absurd (omega arith)
at_in d (x ∷ xs) zero l = inl refl
at_in d (x ∷ xs) (suc i) l = inr (at_in d xs i (omega arith))

-- ---- a pixel of a vector, with its bound
on_vector : (m m' : Machine) (p : Pixel) → Among p (vector (pixel_at square m.x m.y) (pixel_at square m'.x m'.y)) → OnVector m m' p
on_vector m m' p h =
    let r = in_at p p (vector a b) h in
    let k : r.0 ≤ longer a b = let l = r.1.0 in omega (arith, vector_length a b) in
    record {
      i = r.0;
      within = k;
      is = r.1.1;
      near = λ some. rw r.1.1 at (vector_near m.x m.y m'.x m'.y r.0 p some k);
      one = λ e.
          let q = point_near m.x m.y m'.x m'.y e in
          let at-start : p ≡ a = ⊎_elim (λ t. t) (λ n. absurd n) (rw (vector_point a b e) at h) in
          rw at-start ((q.0, q.1), (q.2, q.3));
    }
  where
    a : Pixel
    a = pixel_at square m.x m.y

    b : Pixel
    b = pixel_at square m'.x m'.y

module _ (g : Given) where
  one_further : (k : ℕ) (s : State) → (run g k s).machine.status ≡ 0 → run g (suc k) s ≡ on g (run g k s)
  unfolding run
  one_further k s r = ap (λ (n : ℕ). run g n s) (sym (add-one k)) ∙ run_add g k 1 s ∙ run_turn g 0 (run g k s) r

  -- a pixel that a vector lights, between the machine and the one that its step leaves
  lit_vector : (m : Machine) (p : Pixel) → (m.mode ≡ 1) ⊎ (m.mode ≡ 2) → Lights g m p → OnVector m (step g m).machine p
  lit_vector m p h r = on_vector m (step g m).machine p (⊎_elim (λ e. at_mode e ((in_words g m p).0 r).pixel) (λ e. at_mode e ((in_words g m p).0 r).pixel) h)
    where
      at_mode : {k : ℕ} → m.mode ≡ k → Among p (lights_between g m.mode (word g m) m (step g m).machine) → Among p (lights_between g k (word g m) m (step g m).machine)
      at_mode e i = subst (λ (k : ℕ). Among p (lights_between g k (word g m) m (step g m).machine)) e i

  pub vector_origin : (b : ℕ) (s : State) (t : Stroke) → Among t (strokes g b s) → (t.machine.mode ≡ 1) ⊎ (t.machine.mode ≡ 2)
      → (k : ℕ) × ((k < b) × ((t.machine ≡ (run g k s).machine) × OnVector (run g k s).machine (run g (suc k) s).machine t.pixel))
  vector_origin b s t h mode =
      let d = (stroke_origin g b s t).0 h in
      let k = d.0 in
      let m = (run g k s).machine in
      let same = d.1.1.1.0 in
      (k, (d.1.0, (same, rw (one_further k s d.1.1.0) (lit_vector m t.pixel (rw same at mode) d.1.1.1.1))))

  -- ---- and the other way round
  -- every pixel of a lit vector that is in the field, with write on, is a stroke of its run
  module _ (b : ℕ) (s : State) (k : ℕ) (below : k < b) (running : (run g k s).machine.status ≡ 0) (v : LitVector g (run g k s).machine) where
    abbrev m : Machine
    m = (run g k s).machine

    abbrev m' : Machine
    m' = (run g (suc k) s).machine

    abbrev stroke : Pixel → Stroke
    stroke p = record { machine = m; pixel = p }

    lit_pixel : (p : Pixel) → Among p (vector_between m m') → InField (shape_of m) p → Among (stroke p) (strokes g b s)
    lit_pixel p h f = (stroke_in_words g b s (stroke p)).1 (k, (below, (running, (refl, plots))))
      where
        at_mode : {n : ℕ} → m.mode ≡ n → Among p (lights_between g n (word g m) m (step g m).machine) → Among p (lights_between g m.mode (word g m) m (step g m).machine)
        at_mode e i = subst (λ (n : ℕ). Among p (lights_between g n (word g m) m (step g m).machine)) (sym e) i

        there : Among p (vector_between m (step g m).machine)
        there = subst (λ (t : State). Among p (vector_between m t.machine)) (one_further k s running) h

        plots : Plots g m p
        plots = record { free = v.completes; on = v.writes; data_word = v.data_word; lit = inr v.is_lit; field = f; pixel = ⊎_elim (λ e. at_mode e there) (λ e. at_mode e there) v.mode }

    pub vector_drawn : (i : ℕ) (d : Pixel) → i ≤ longer_between m m' → InField (shape_of m) (get_or (vector_between m m') i d) → Among (stroke (get_or (vector_between m m') i d)) (strokes g b s)
    vector_drawn i d l f = lit_pixel _ (at_in d (vector_between m m') i (omega (arith, vector_length (pixel_at square m.x m.y) (pixel_at square m'.x m'.y)))) f

    -- its two ends among them
    pub start_drawn : InField (shape_of m) (pixel_at (shape_of m) m.x m.y) → Among (stroke (pixel_at (shape_of m) m.x m.y)) (strokes g b s)
    start_drawn f = let e = vector_first (pixel_at square m.x m.y) (pixel_at square m'.x m'.y) (pixel_at square m.x m.y) in rw e at (vector_drawn 0 (pixel_at square m.x m.y) (omega arith) (rw e f))

    pub end_drawn : InField (shape_of m) (pixel_at (shape_of m) m'.x m'.y) → Among (stroke (pixel_at (shape_of m) m'.x m'.y)) (strokes g b s)
    end_drawn f = let e = vector_last (pixel_at square m.x m.y) (pixel_at square m'.x m'.y) (pixel_at square m.x m.y) in rw e at (vector_drawn (longer_between m m') (pixel_at square m.x m.y) (omega arith) (rw e f))
