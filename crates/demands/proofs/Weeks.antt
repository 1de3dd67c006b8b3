-- What a reader sees of graph words: the pixel value at each lit one's place, and every other pixel as it was.
use Prim.Native.Nat.{ℕ, zero, suc, ◌+◌, ◌*◌, ◌<◌, ◌/◌, ◌%◌}
use mathlib.Core.Bool.{Bool, true, false}
use mathlib.Core.List.{List, [], ◌∷◌}
use mathlib.Core.Path.{◌≡◌, refl, ap, ◌∙◌}
use mathlib.Core.Logic.{◌⊎◌, inl, inr, ⊎_elim, ◌↔◌}
use native.Mathlib.Omega.{arith}
use native.Mathlib.Nat.{add-zero, zero-add}
use lib.ListN.{length, get_or}
use lib.IntN.{ℤ, pos, ◌+ℤ◌}
use borrow.Author.Tests.{eqb-true, eqb-false}
use Rattle.definition.specs.Choice.{pick}
use Rattle.definition.specs.Units.{units}
use Rattle.definition.specs.Image.{Shape, square, image_bytes, inside, stores, Left}
use Rattle.definition.specs.Words.{bit, coordinate}
use Rattle.definition.specs.Machine.{pen_of}
use Rattle.definition.specs.Step.{Given}
use Rattle.definition.specs.Run.{State, begun, run}
use Rattle.definition.specs.Calls.{Lent, Read, given, answered, run_call, read_call}
use Rattle.definition.specs.declared.Pixel.{Pixel}
use Rattle.definition.specs.declared.Machine.{Machine}
use Rattle.definition.specs.declared.Ran.{Ran}
use Rattle.demands.specs.Conditions.{Among, Fits, Open, InField, On}
use Rattle.demands.specs.Graphs.{Axis, stepped, pixel_on, weeks, of_lit, week_at, shown, Ready, plotted}
use Rattle.demands.specs.Strokes.{seen}
use Rattle.demands.proofs.Kept.{run_length}
use Rattle.demands.proofs.CallAnswers.{door_0, call_open}
use Rattle.demands.proofs.OnePen.{lit_stands, unlit_stands}
use Rattle.demands.proofs.OtherCalls.{read_0, reads_alike}
use Rattle.demands.proofs.Graphs.{plot_then_step}

-- ---- which pixels lit words light
module _ (axis : Axis) (h : Shape) (x : ℤ) (g : ℕ) (p : Pixel) where
  abbrev at : ℕ → ℕ → Pixel
  at k w = pixel_on axis h (units (x +ℤ pos (k * g))) (coordinate w)

  -- p is the place of a lit word, numbered from j
  abbrev Some : ℕ → List ℕ → Type 0
  Some j ws = (k : ℕ) × ((k < length ws) × (On 14 (get_or ws k 0) × (p ≡ at (j + k) (get_or ws k 0))))

  in_lit : (j : ℕ) (ws : List ℕ) → Among p (of_lit ws (weeks axis h x g j ws)) ↔ Some j ws
  in_lit j [] = (λ n. absurd n, λ q. absurd (let l = q.1.0 in omega arith))
  in_lit j (w ∷ ws) = go (bit 14 w) refl (in_lit (suc j) ws)
    where
      rest : List Pixel
      rest = of_lit ws (weeks axis h x g (suc j) ws)

      later : Some (suc j) ws → Some j (w ∷ ws)
      later q = let l = q.1.0 in (suc q.0, (omega arith, (q.1.1.0, let e : suc j + q.0 ≡ j + suc q.0 = omega arith in rw e at q.1.1.1)))

      go : (t : Bool) → bit 14 w ≡ t → Among p rest ↔ Some (suc j) ws → Among p (pick t (at j w ∷ rest) rest) ↔ Some j (w ∷ ws)
      go true e ih = (
        ⊎_elim (λ q. (0, (omega arith, (eqb-true (w / 16384 % 2) 1 e, rw (add-zero j) q)))) (λ q. later (ih.0 q)),
        λ q. back q.0 q.1,
      )
        where
          back : (k : ℕ) → (k < length (w ∷ ws)) × (On 14 (get_or (w ∷ ws) k 0) × (p ≡ at (j + k) (get_or (w ∷ ws) k 0))) → (p ≡ at j w) ⊎ Among p rest
          back zero q = inl (rw (add-zero j) at q.1.1)
          back (suc k) q = let l = q.0 in let e : j + suc k ≡ suc j + k = omega arith in inr (ih.1 (k, (omega arith, (q.1.0, rw e at q.1.1))))
      go false e ih = (λ q. later (ih.0 q), λ q. back q.0 q.1)
        where
          back : (k : ℕ) → (k < length (w ∷ ws)) × (On 14 (get_or (w ∷ ws) k 0) × (p ≡ at (j + k) (get_or (w ∷ ws) k 0))) → Among p rest
          back zero q = absurd (eqb-false (w / 16384 % 2) 1 e q.1.0)
          back (suc k) q = let l = q.0 in let e : j + suc k ≡ suc j + k = omega arith in ih.1 (k, (omega arith, (q.1.0, rw e at q.1.1)))

-- ---- the theorems
shown_on : (m : Machine) (ps : List Pixel) → m.write ≡ true → shown m ps ≡ inside square ps
shown_on m ps on = ap (λ (b : Bool). pick b (inside square ps) []) on

module _ (axis : Axis) (g : Given) (s : State) (ws : List ℕ) (r : Ready axis g s ws) (fits : Fits s.machine) where
  abbrev m : Machine
  m = s.machine

  abbrev lit : List Pixel
  lit = of_lit ws (weeks axis square (stepped axis m).0 m.increment 0 ws)

  image_is : (run g (length ws) s).image ≡ stores square (pen_of m) s.image (shown m lit)
  image_is = ap (λ (t : State). t.image) (plot_then_step axis g s ws r)

  -- each lit week in the field reads the pixel value
  pub week_reads : (k : ℕ) → length s.image ≡ image_bytes → m.write ≡ true → k < length ws → On 14 (get_or ws k 0) → InField square (week_at axis m ws k)
      → read_call square (run g (length ws) s).image (week_at axis m ws k) ≡ record { answer = 0; digit = m.value }
  week_reads k l on here is_lit f =
      let p = week_at axis m ws k in
      let among : Among p lit = (in_lit axis square (stepped axis m).0 m.increment p 0 ws).1 (k, (here, (is_lit, rw (zero-add k)))) in
      let stands : seen square (run g (length ws) s).image p ≡ m.value = ap (λ (t : List ℕ). seen square t p) (image_is ∙ ap (stores square (pen_of m) s.image) (shown_on m lit on)) ∙ lit_stands m fits s.image l p f lit among in
      (read_0 square (run g (length ws) s).image p).1 (run_length g (length ws) s ∙ l, f) ∙ ap (λ (d : ℕ). let q : Read = record { answer = 0; digit = d } in q) stands

  -- a pixel that is no lit week's reads as before
  pub no_week_reads : (p : Pixel) → ((k : ℕ) → k < length ws → On 14 (get_or ws k 0) → p ≡ week_at axis m ws k → ⊥)
      → read_call square (run g (length ws) s).image p ≡ read_call square s.image p
  unfolding stores
  no_week_reads p h = reads_alike square s.image (run g (length ws) s).image p (run_length g (length ws) s) (λ l f. ap (λ (t : List ℕ). seen square t p) image_is ∙ go m.write l f)
    where
      none : Among p lit → ⊥
      none i = let q = (in_lit axis square (stepped axis m).0 m.increment p 0 ws).0 i in h q.0 q.1.0 q.1.1.0 (rw (zero-add q.0) at q.1.1.1)

      go : (on : Bool) → length s.image ≡ image_bytes → InField square p → seen square (stores square (pen_of m) s.image (pick on (inside square lit) [])) p ≡ seen square s.image p
      go true l f = unlit_stands m fits s.image l p f lit none
      go false l f = refl

-- ---- a call with a budget of as many steps as there are words
module _ (axis : Axis) (l : Lent) (m : Machine) (im ws : List ℕ) (o : Open l m im (length ws)) (r : Ready axis (given l) (begun m im) ws) where
  ran : run_call l m im (length ws) ≡ answered (run (given l) (length ws) (begun m im))
  ran = call_open l m im (length ws) ((door_0 l m im (length ws)).1 o)

  reads_so : (p : Pixel) → read_call square (run_call l m im (length ws)).image p ≡ read_call square (run (given l) (length ws) (begun m im)).image p
  reads_so p = ap (λ (t : Left Ran). read_call square t.image p) ran

  pub call_weeks : run_call l m im (length ws) ≡ answered (plotted axis (begun m im) ws)
  call_weeks = ran ∙ ap answered (plot_then_step axis (given l) (begun m im) ws r)

  pub call_week_reads : (k : ℕ) → m.write ≡ true → k < length ws → On 14 (get_or ws k 0) → InField square (week_at axis m ws k)
      → read_call square (run_call l m im (length ws)).image (week_at axis m ws k) ≡ record { answer = 0; digit = m.value }
  call_week_reads k on here lit f = reads_so (week_at axis m ws k) ∙ week_reads axis (given l) (begun m im) ws r o.machine k o.image on here lit f

  pub call_no_week_reads : (p : Pixel) → ((k : ℕ) → k < length ws → On 14 (get_or ws k 0) → p ≡ week_at axis m ws k → ⊥)
      → read_call square (run_call l m im (length ws)).image p ≡ read_call square im p
  call_no_week_reads p h = reads_so p ∙ no_week_reads axis (given l) (begun m im) ws r o.machine p h
