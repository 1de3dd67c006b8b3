-- Stores by one pen: at each of their pixels stands what the pen makes of the digit before, every other pixel is as it was, and the same stores again change nothing.
use Prim.Native.Nat.{ℕ, ◌/◌, ◌^◌}
use mathlib.Core.Bool.{Bool, true, false}
use mathlib.Core.List.{List, [], ◌∷◌}
use mathlib.Core.Path.{◌≡◌, refl, sym, ap, ◌∙◌}
use mathlib.Core.Logic.{inl, inr, ⊎_elim}
use native.Mathlib.Nat.{div-add-mod', div-div-eq-div-mul}
use lib.ListN.{length, get_or, set}
use lib.Seq.{set-get_or}
use lib.IntN.{nat_abs}
use Rattle.definition.specs.Choice.{pick}
use Rattle.definition.specs.Image.{Shape, Pen, square, image_bytes, inside, byte_of, digit_of, digit, put_digit, digit_at, store, stores}
use Rattle.definition.specs.Machine.{pen_of}
use Rattle.definition.specs.declared.Pixel.{Pixel}
use Rattle.definition.specs.declared.Machine.{Machine}
use Rattle.definition.proofs.Plain.{failing}
use Rattle.definition.proofs.StoreLaws.{square_sound}
use Rattle.demands.specs.Conditions.{Among, Fits, InField}
use Rattle.demands.specs.Strokes.{Stroke, strokes_of, seen, same_pixel, standing}
use Rattle.demands.proofs.Members.{in_inside, in_strokes}
use Rattle.demands.proofs.Strokes.{drawn_of}
use Rattle.demands.proofs.Standing.{Keeps, fits_keeps, same_pixel_is, drawn_stands, none_stands}

-- ---- the digits, for a pen that leaves alone what it has left
module _ (m : Machine) (idle : (d : ℕ) → pen_of m (pen_of m d) ≡ pen_of m d) (p : Pixel) where
  rests : (d : ℕ) (ps : List Pixel) → pen_of m d ≡ d → standing p d (strokes_of m ps) ≡ d
  rests d [] e = refl
  rests d (q ∷ qs) e = go (same_pixel p q) (rests d qs e)
    where
      go : (b : Bool) → standing p d (strokes_of m qs) ≡ d → standing p (pick b (pen_of m d) d) (strokes_of m qs) ≡ d
      go true ih = ap (λ (c : ℕ). standing p c (strokes_of m qs)) e ∙ ih
      go false ih = ih

  inked : (d : ℕ) (ps : List Pixel) → Among p ps → standing p d (strokes_of m ps) ≡ pen_of m d
  inked d [] h = absurd h
  inked d (q ∷ qs) h = go (same_pixel p q) refl (rests (pen_of m d) qs (idle d)) (inked d qs)
    where
      go : (b : Bool) → same_pixel p q ≡ b → standing p (pen_of m d) (strokes_of m qs) ≡ pen_of m d → (Among p qs → standing p d (strokes_of m qs) ≡ pen_of m d)
          → standing p (pick b (pen_of m d) d) (strokes_of m qs) ≡ pen_of m d
      go true e r ih = r
      go false e r ih = ⊎_elim (λ k. absurd (failing.0 e (same_pixel_is.1 k))) ih h

-- the digit at a pixel of the field after stores of pixels of the field
module _ (m : Machine) (fits : Fits m) (im : List ℕ) (l : length im ≡ image_bytes) (p : Pixel) (f : InField square p) (ps : List Pixel) where
  stores_stand : seen square (stores square (pen_of m) im (inside square ps)) p ≡ standing p (seen square im p) (strokes_of m (inside square ps))
  stores_stand =
      ap (λ (t : List ℕ). seen square t p) (sym (drawn_of m im (inside square ps)))
      ∙ drawn_stands square square_sound p f im (strokes_of m (inside square ps)) l keeps
    where
      keeps : (t : Stroke) → Among t (strokes_of m (inside square ps)) → Keeps square t
      keeps t h =
          let w = (in_strokes m t (inside square ps)).0 h in
          fits_keeps t (rw w.0 fits) ((in_inside square t.pixel ps).0 w.1).0

  pub lit_stands : Among p ps → seen square (stores square (pen_of m) im (inside square ps)) p ≡ pen_of m (seen square im p)
  lit_stands h = stores_stand ∙ inked m (λ d. refl) p (seen square im p) (inside square ps) ((in_inside square p ps).1 (f, h))

  pub unlit_stands : (Among p ps → ⊥) → seen square (stores square (pen_of m) im (inside square ps)) p ≡ seen square im p
  unlit_stands h =
      stores_stand
      ∙ none_stands p (seen square im p) (strokes_of m (inside square ps)) (λ t k e. let w = (in_strokes m t (inside square ps)).0 k in h (rw e ((in_inside square t.pixel ps).0 w.1).1))

-- ---- the same stores again
-- a digit put where it stands
put_same : (b k byte : ℕ) → put_digit b k byte (digit b k byte) ≡ byte
unfolding digit put_digit
put_same b k byte = rw (← div-div-eq-div-mul byte (b ^ k) b, div-add-mod' (byte / b ^ k) b) (div-add-mod' byte (b ^ k))

-- so a store that leaves the digit that it finds changes nothing
store_idle : (s : Shape) (pen : Pen) (im : List ℕ) (x y : ℕ) → pen (digit_at s im x y) ≡ digit_at s im x y → store s pen im x y ≡ im
unfolding store digit_at
store_idle s pen im x y e =
    ap (λ (d : ℕ). set im (byte_of s x y) (put_digit s.base (digit_of s x) (get_or im (byte_of s x y) 0) d)) e
    ∙ ap (set im (byte_of s x y)) (put_same s.base (digit_of s x) (get_or im (byte_of s x y) 0))
    ∙ set-get_or im (byte_of s x y) 0

stores_idle : (s : Shape) (pen : Pen) (im : List ℕ) (qs : List Pixel) → ((q : Pixel) → Among q qs → pen (seen s im q) ≡ seen s im q) → stores s pen im qs ≡ im
unfolding stores
stores_idle s pen im [] h = refl
stores_idle s pen im (q ∷ qs) h =
    ap (λ (t : List ℕ). stores s pen t qs) (store_idle s pen im (nat_abs q.x.0) (nat_abs q.y.0) (h q (inl refl))) ∙ stores_idle s pen im qs (λ r k. h r (inr k))

pub stores_again : (m : Machine) → Fits m → (im : List ℕ) → length im ≡ image_bytes → (ps qs : List Pixel) → ((q : Pixel) → Among q qs → Among q ps)
    → stores square (pen_of m) (stores square (pen_of m) im (inside square ps)) (inside square qs) ≡ stores square (pen_of m) im (inside square ps)
stores_again m fits im l ps qs all =
    stores_idle square (pen_of m) (stores square (pen_of m) im (inside square ps)) (inside square qs)
    (λ q k. let w = (in_inside square q qs).0 k in let e = lit_stands m fits im l q w.0 ps (all q w.1) in ap (pen_of m) e ∙ sym e)
