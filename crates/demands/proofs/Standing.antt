-- What stands at a pixel after strokes: what those at the pixel make of the digit before, one after the other.
use Prim.Native.Nat.{ℕ, ◌<◌}
use mathlib.Core.Bool.{Bool, true, false}
use mathlib.Core.List.{List, [], ◌∷◌, ◌++◌}
use mathlib.Core.Path.{◌≡◌, refl, sym, ap, ◌∙◌}
use mathlib.Core.Logic.{◌⊎◌, inl, inr, ⊎_elim, ◌↔◌}
use lib.ListN.{length}
use lib.IntN.{ℤ, nat_abs}
use lib.Signed.{◌≤ℤ◌}
use Rattle.whole.specs.Parts.{whole, abs}
use Rattle.definition.specs.Choice.{pick}
use Rattle.definition.specs.Units.{pixel}
use Rattle.definition.specs.Image.{Shape, square, image_bytes, store}
use Rattle.definition.specs.Machine.{shape_of, pen_of}
use Rattle.definition.specs.Step.{Given}
use Rattle.definition.specs.Run.{State, run}
use Rattle.definition.specs.Calls.{read_call}
use Rattle.definition.specs.declared.Pixel.{Pixel}
use Rattle.definition.specs.declared.Machine.{Machine}
use Rattle.definition.proofs.Exactly.{apart}
use Rattle.definition.proofs.Plain.{◌so◌, ◌and◌, is_most_z, both_true, failing}
use Rattle.definition.proofs.StoreLaws.{store_length, Sound, square_sound, store_reads_back, other_pixel, Fitting, left_low}
use Rattle.demands.specs.Conditions.{Among, InField, Fits, During}
use Rattle.demands.specs.Strokes.{Stroke, stroked, drawn, strokes, Plots, seen, same_number, same_pixel, standing, Unstruck}
use Rattle.demands.proofs.Kept.{pen_fits, run_fits, run_length}
use Rattle.demands.proofs.Members.{in_append}
use Rattle.demands.proofs.OtherCalls.{reads_alike}
use Rattle.demands.proofs.Strokes.{run_image}
use Rattle.demands.proofs.Origins.{stroke_origin}
use Rattle.demands.proofs.Places.{stroke_in_words}

-- ---- the test for one pixel
both_ways : {a b : ℤ} → ((a ≤ℤ b) × (b ≤ℤ a)) ↔ (a ≡ b)
both_ways {a} {b} = (λ w. meet w.0 w.1, λ e. (least e, least (sym e)))
  where
    meet : a ≤ℤ b → b ≤ℤ a → a ≡ b
    meet l k = omega whole

    least : {c d : ℤ} → c ≡ d → c ≤ℤ d
    least e = omega whole

same_number_is : {a b : ℤ} → (same_number a b ≡ true) ↔ (a ≡ b)
same_number_is = both_true so is_most_z and is_most_z so both_ways

pub same_pixel_is : {p q : Pixel} → (same_pixel p q ≡ true) ↔ (p ≡ q)
same_pixel_is {p} {q} =
    both_true so same_number_is and same_number_is
    so (λ w. ap (λ (z : ℤ). pixel z p.y.0) w.0 ∙ ap (pixel q.x.0) w.1, λ e. (ap (λ (r : Pixel). r.x.0) e, ap (λ (r : Pixel). r.y.0) e))

-- ---- a stroke of this shape, in its field, that leaves one of its digits where it finds one
pub record Keeps (h : Shape) (t : Stroke) : Type 0 where
  pub shape : shape_of t.machine ≡ h
  pub field : InField h t.pixel
  pub pen : Fitting h.base (pen_of t.machine)

module _ (h : Shape) (p : Pixel) (f : InField h p) where
  pub across : nat_abs p.x.0 < h.width
  across = let a = f.x.0 in let b = f.x.1 in omega (whole, abs p.x.0)

  pub upward : nat_abs p.y.0 < h.height
  upward = let a = f.y.0 in let b = f.y.1 in omega (whole, abs p.y.0)

  -- in the field a pixel is known by its sizes
  pub by_sizes : (q : Pixel) → InField h q → nat_abs p.x.0 ≡ nat_abs q.x.0 → nat_abs p.y.0 ≡ nat_abs q.y.0 → p ≡ q
  by_sizes q k ex ey =
      let a = f.x.0 in
      let b = f.y.0 in
      let c = k.x.0 in
      let d = k.y.0 in
      let x : p.x.0 ≡ q.x.0 = omega (whole, abs p.x.0, abs q.x.0) in
      let y : p.y.0 ≡ q.y.0 = omega (whole, abs p.y.0, abs q.y.0) in
      ap (λ (z : ℤ). pixel z p.y.0) x ∙ ap (pixel q.x.0) y

-- ---- one stroke, and strokes one after the other
module _ (h : Shape) (ok : Sound h) (p : Pixel) (f : InField h p) where
  one_stroke : (im : List ℕ) (t : Stroke) → length im ≡ image_bytes → Keeps h t → seen h (stroked im t) p ≡ pick (same_pixel p t.pixel) (pen_of t.machine (seen h im p)) (seen h im p)
  one_stroke im t l k = rw k.shape (go (same_pixel p q) refl)
    where
      q : Pixel
      q = t.pixel

      low : pen_of t.machine (seen h im q) < h.base
      low = left_low h (pen_of t.machine) k.pen im (nat_abs q.x.0) (nat_abs q.y.0)

      go : (b : Bool) → same_pixel p q ≡ b → seen h (store h (pen_of t.machine) im (nat_abs q.x.0) (nat_abs q.y.0)) p ≡ pick b (pen_of t.machine (seen h im p)) (seen h im p)
      go true e = rw ((same_pixel_is {p = p} {q = q}).0 e) (store_reads_back h (pen_of t.machine) im _ _ (rw l (ok.room _ _ (across h q k.field) (upward h q k.field))) low)
      go false e =
          other_pixel h (pen_of t.machine) im _ _ _ _ (ok.row _ (across h q k.field)) (ok.row _ (across h p f)) low
          (λ a b. apart (sym ((same_pixel_is {p = p} {q = q}).1 (by_sizes h p f q k.field a b)) ∙ e))

  pub drawn_stands : (im : List ℕ) (ts : List Stroke) → length im ≡ image_bytes → ((t : Stroke) → Among t ts → Keeps h t) → seen h (drawn im ts) p ≡ standing p (seen h im p) ts
  drawn_stands im [] l k = refl
  drawn_stands im (t ∷ ts) l k =
      drawn_stands (stroked im t) ts (store_length (shape_of t.machine) (pen_of t.machine) im _ _ ∙ l) (λ u m. k u (inr m))
      ∙ ap (λ (d : ℕ). standing p d ts) (one_stroke im t l (k t (inl refl)))

-- a stroke by a machine in range, in the field
pub fits_keeps : (t : Stroke) → Fits t.machine → InField square t.pixel → Keeps square t
fits_keeps t fits f = record { shape = refl; field = f; pen = pen_fits t.machine fits }

-- ---- the fold: with no stroke at the pixel, and with a last one
pub none_stands : (p : Pixel) (d : ℕ) (ts : List Stroke) → Unstruck p ts → standing p d ts ≡ d
none_stands p d [] h = refl
none_stands p d (t ∷ ts) h = go (same_pixel p t.pixel) refl (none_stands p d ts (λ u m. h u (inr m)))
  where
    go : (b : Bool) → same_pixel p t.pixel ≡ b → standing p d ts ≡ d → standing p (pick b (pen_of t.machine d) d) ts ≡ d
    go true e ih = absurd (h t (inl refl) (same_pixel_is.0 e))
    go false e ih = ih

pub standing_append : (p : Pixel) (d : ℕ) (ts us : List Stroke) → standing p d (ts ++ us) ≡ standing p (standing p d ts) us
standing_append p d [] us = refl
standing_append p d (t ∷ ts) us = standing_append p (pick (same_pixel p t.pixel) (pen_of t.machine d) d) ts us

pub last_stands : (p : Pixel) (d : ℕ) (before since : List Stroke) (t : Stroke) → p ≡ t.pixel → Unstruck p since
    → standing p d (before ++ (t ∷ since)) ≡ pen_of t.machine (standing p d before)
last_stands p d before since t e h =
    standing_append p d before (t ∷ since) ∙ rw ((same_pixel_is {p = p} {q = t.pixel}).1 e) (none_stands p (pen_of t.machine (standing p d before)) since h)

-- ---- no stroke at a pixel, or a last one
abbrev LastAt : Pixel → List Stroke → Type 0
LastAt p ts = (before : List Stroke) × ((t : Stroke) × ((since : List Stroke) × ((ts ≡ before ++ (t ∷ since)) × ((p ≡ t.pixel) × Unstruck p since))))

none_or_last : (p : Pixel) (ts : List Stroke) → Unstruck p ts ⊎ LastAt p ts
none_or_last p [] = inl (λ t h e. h)
none_or_last p (t ∷ ts) = ⊎_elim (λ h. go (same_pixel p t.pixel) refl h) (λ h. inr (later h)) (none_or_last p ts)
  where
    later : LastAt p ts → LastAt p (t ∷ ts)
    later h = (t ∷ h.0, (h.1.0, (h.1.1.0, (ap (λ (us : List Stroke). t ∷ us) h.1.1.1.0, h.1.1.1.1))))

    go : (b : Bool) → same_pixel p t.pixel ≡ b → Unstruck p ts → Unstruck p (t ∷ ts) ⊎ LastAt p (t ∷ ts)
    go true e h = inr ([], (t, (ts, (refl, (same_pixel_is.0 e, h)))))
    go false e h = inl (λ u k q. ⊎_elim (λ n. failing.0 e (same_pixel_is.1 (q ∙ ap (λ (v : Stroke). v.pixel) n))) (λ n. h u n q) k)

-- ---- a run
module _ (g : Given) (b : ℕ) (s : State) (fits : Fits s.machine) where
  pub run_keeps_strokes : (t : Stroke) → Among t (strokes g b s) → Keeps square t
  run_keeps_strokes t h =
      let d = (stroke_origin g b s t).0 h in
      let same = d.1.1.1.0 in
      fits_keeps t (rw same (run_fits g d.0 s fits)) d.1.1.1.1.field

  module _ (l : length s.image ≡ image_bytes) (p : Pixel) (f : InField square p) where
    pub what_stands : seen square (run g b s).image p ≡ standing p (seen square s.image p) (strokes g b s)
    what_stands = ap (λ (im : List ℕ). seen square im p) (run_image g b s) ∙ drawn_stands square square_sound p f s.image (strokes g b s) l run_keeps_strokes

    pub unstruck_stays : Unstruck p (strokes g b s) → seen square (run g b s).image p ≡ seen square s.image p
    unstruck_stays h = what_stands ∙ none_stands p (seen square s.image p) (strokes g b s) h

    pub last_stroke_stands : (before since : List Stroke) (t : Stroke) → strokes g b s ≡ before ++ (t ∷ since) → p ≡ t.pixel → Unstruck p since
        → seen square (run g b s).image p ≡ t.machine.value
    last_stroke_stands before since t e at h = what_stands ∙ ap (standing p (seen square s.image p)) e ∙ last_stands p (seen square s.image p) before since t at h

    -- a digit that a run has changed was stored by an instruction of it, with this value
    pub changed_by : (seen square (run g b s).image p ≡ seen square s.image p → ⊥) → During g b s (λ m. Plots g m p × (m.value ≡ seen square (run g b s).image p))
    changed_by h = ⊎_elim (λ n. absurd (h (unstruck_stays n))) by_last (none_or_last p (strokes g b s))
      where
        by_last : LastAt p (strokes g b s) → During g b s (λ m. Plots g m p × (m.value ≡ seen square (run g b s).image p))
        by_last l =
            let t = l.1.0 in
            let e = l.1.1.1.0 in
            let at = l.1.1.1.1.0 in
            let i : Among t (strokes g b s) = rw e ((in_append t l.0 (t ∷ l.1.1.0)).1 (inr (inl refl))) in
            let d = (stroke_in_words g b s t).0 i in
            let v = last_stroke_stands l.0 l.1.1.0 t e at l.1.1.1.1.1 in
            (d.0, (d.1.0, (d.1.1.0, (rw at d.1.1.1.1, sym (ap (λ (m : Machine). m.value) d.1.1.1.0) ∙ sym v))))

  -- and to a reader a pixel with no stroke, in the field or not, in an image of whatever length, is as before
  pub unstruck_reads : (p : Pixel) → Unstruck p (strokes g b s) → read_call square (run g b s).image p ≡ read_call square s.image p
  unstruck_reads p h = reads_alike square s.image (run g b s).image p (run_length g b s) (λ l f. unstruck_stays l p f h)
