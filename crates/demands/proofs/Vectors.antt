-- A vector's pixels: how many, how near each lies to its exact point, and that they are the reversed vector's.
use Prim.Native.Nat.{ℕ, suc, ◌+◌, ◌*◌, ◌-◌, ◌<◌, ◌≤◌}
use mathlib.Core.Path.{◌≡◌, sym, ap, ◌∙◌}
use mathlib.Core.List.{List, [], ◌∷◌, reverse}
use native.Mathlib.Decide.{ℕ_discrete}
use lib.ListN.{length, get_or}
use lib.IntN.{ℤ, pos, nat_abs, ◌-ℤ◌, ◌*ℤ◌}
use lib.Signed.{shr_z}
use borrow.Author.Tests.{eq-eqb, ne_eqb}
use Rattle.whole.specs.Parts.{whole, up, dn, sub, abs, size, floor_is}
use Rattle.definition.specs.Units.{pixel, pixels_of}
use Rattle.definition.specs.Image.{Shape, square, pixel_at, inside, Pen, stores}
use Rattle.definition.specs.Vector.{apart_x, apart_y, longer, rounded, nth, numbered, vector}
use Rattle.definition.specs.declared.Units.{Units}
use Rattle.definition.specs.declared.Pixel.{Pixel}
use Rattle.definition.proofs.VectorLaws.{numbered_length, top, top_parts, along, one_formula}
use Rattle.definition.proofs.StoreLaws.{inside_reverse, Fitting, stores_reverse}
use Rattle.demands.specs.Exact.{exact}
use Rattle.demands.proofs.Near.{near, near_end}
use Rattle.demands.proofs.Numbered.{numbered_at, numbered_same, numbered_reverse}

-- ---- the list
module _ (a b : Pixel) where
  pub vector_point : longer a b ≡ 0 → vector a b ≡ a ∷ []
  unfolding vector
  vector_point e = rw (eq-eqb _ _ e)

  vector_numbered : (longer a b ≡ 0 → ⊥) → vector a b ≡ numbered (nth a b) (suc (longer a b))
  unfolding vector
  vector_numbered h = rw (ne_eqb _ _ h)

  pub vector_length : length (vector a b) ≡ suc (longer a b)
  vector_length = go (ℕ_discrete (longer a b) 0)
    where
      go : Dec (longer a b ≡ 0) → length (vector a b) ≡ suc (longer a b)
      go (yes e) = ap length (vector_point e) ∙ ap suc (sym e)
      go (no h) = ap length (vector_numbered h) ∙ numbered_length (nth a b) (suc (longer a b))

  -- pixel i, by the one formula for both axes
  pub vector_at : (i : ℕ) (d : Pixel) → 0 < longer a b → i ≤ longer a b → get_or (vector a b) i d ≡ along a b i
  vector_at i d h k =
      ap (λ (l : List Pixel). get_or l i d) (vector_numbered (λ e. omega whole))
      ∙ numbered_at (nth a b) (suc (longer a b)) i d (omega whole)
      ∙ one_formula a b i h

-- ---- backwards
-- along one axis, from p to q and from q to p
turned : (p q : ℤ) (n i : ℕ) → i ≤ n → rounded q (p -ℤ q) n i ≡ rounded p (q -ℤ p) n (n - i)
unfolding rounded
turned p q n i k = ap (λ (z : ℤ). shr_z z (2 * n)) (go (n - i) (omega whole))
  where
    go : (j : ℕ) → n ≡ i + j → top q (p -ℤ q) n i ≡ top p (q -ℤ p) n j
    go j s =
        omega (
          whole,
          top_parts q (p -ℤ q) n i,
          top_parts p (q -ℤ p) n j,
          ap (λ (t : ℕ). i * t) (sub p q),
          ap (λ (t : ℕ). j * t) (sub q p),
          ap (λ (t : ℕ). t * up p) s,
          ap (λ (t : ℕ). t * dn p) s,
          ap (λ (t : ℕ). t * up q) s,
          ap (λ (t : ℕ). t * dn q) s,
        )

apart_size : (p q : ℤ) → nat_abs (q -ℤ p) ≡ nat_abs (p -ℤ q)
apart_size p q = omega (whole, sub p q, sub q p, abs (q -ℤ p), abs (p -ℤ q))

pub longer_turned : (a b : Pixel) → longer b a ≡ longer a b
unfolding longer
longer_turned a b = rw (apart_size a.x.0 b.x.0, apart_size a.y.0 b.y.0)

module _ (a b : Pixel) where
  -- n is 0 where the two ends are one pixel
  one_point : longer a b ≡ 0 → b ≡ a
  unfolding longer
  one_point e =
      let ex : b.x.0 ≡ a.x.0 = omega (whole, sub b.x.0 a.x.0, size (b.x.0 -ℤ a.x.0)) in
      let ey : b.y.0 ≡ a.y.0 = omega (whole, sub b.y.0 a.y.0, size (b.y.0 -ℤ a.y.0)) in
      ap (λ (z : ℤ). pixel z b.y.0) ex ∙ ap (λ (z : ℤ). pixel a.x.0 z) ey

  along_turned : (i : ℕ) → i ≤ longer a b → along b a i ≡ along a b (longer a b - i)
  unfolding along
  along_turned i k =
      rw (longer_turned a b, turned a.x.0 b.x.0 (longer a b) i k, turned a.y.0 b.y.0 (longer a b) i k)

  -- pixel i of the way back is pixel n - i of the way there
  nth_turned : 0 < longer a b → (i : ℕ) → i < suc (longer a b) → nth b a i ≡ nth a b (suc (longer a b) - suc i)
  nth_turned h i k =
      let e = longer_turned a b in
      one_formula b a i (omega whole)
      ∙ along_turned i (omega whole)
      ∙ sym (one_formula a b (longer a b - i) h)
      ∙ ap (nth a b) (omega whole)

  pub vector_turned : vector b a ≡ reverse (vector a b)
  vector_turned = go (ℕ_discrete (longer a b) 0)
    where
      go : Dec (longer a b ≡ 0) → vector b a ≡ reverse (vector a b)
      go (yes e) =
          vector_point b a (longer_turned a b ∙ e) ∙ ap (λ (p : Pixel). p ∷ []) (one_point e) ∙ sym (ap reverse (vector_point a b e))
      go (no h) =
          let some : 0 < longer a b = omega whole in
          vector_numbered b a (λ e. h (sym (longer_turned a b) ∙ e))
          ∙ ap (λ (n : ℕ). numbered (nth b a) (suc n)) (longer_turned a b)
          ∙ numbered_same (nth b a) (λ i. nth a b (suc (longer a b) - suc i)) (suc (longer a b)) (nth_turned some)
          ∙ sym (numbered_reverse (nth a b) (suc (longer a b)))
          ∙ sym (ap reverse (vector_numbered a b h))

-- ---- the ends
-- along one axis, pixel 0 is at the start, and pixel n, which is pixel 0 of the way back, at the end
rounded_first : (p c : ℤ) (n : ℕ) → 0 < n → rounded p c n 0 ≡ p
unfolding rounded
rounded_first p c n h = floor_is (top p c n 0) p (2 * n) (omega whole) (omega (whole, top_parts p c n 0)) (omega (whole, top_parts p c n 0))

rounded_last : (p q : ℤ) (n : ℕ) → 0 < n → rounded p (q -ℤ p) n n ≡ q
rounded_last p q n h = ap (rounded p (q -ℤ p) n) (omega whole) ∙ sym (turned p q n 0 (omega whole)) ∙ rounded_first q (p -ℤ q) n h

module _ (a b d : Pixel) where
  pub vector_first : get_or (vector a b) 0 d ≡ a
  unfolding along
  vector_first = go (ℕ_discrete (longer a b) 0)
    where
      go : Dec (longer a b ≡ 0) → get_or (vector a b) 0 d ≡ a
      go (yes e) = ap (λ (l : List Pixel). get_or l 0 d) (vector_point a b e)
      go (no h) =
          let some : 0 < longer a b = omega whole in
          vector_at a b 0 d some (omega whole) ∙ rw (rounded_first a.x.0 (apart_x a b) (longer a b) some, rounded_first a.y.0 (apart_y a b) (longer a b) some)

  pub vector_last : get_or (vector a b) (longer a b) d ≡ b
  unfolding along
  vector_last = go (ℕ_discrete (longer a b) 0)
    where
      go : Dec (longer a b ≡ 0) → get_or (vector a b) (longer a b) d ≡ b
      go (yes e) = rw (vector_point a b e, e) (sym (one_point a b e))
      go (no h) =
          let some : 0 < longer a b = omega whole in
          vector_at a b (longer a b) d some (omega whole)
          ∙ rw (rounded_last a.x.0 b.x.0 (longer a b) some, rounded_last a.y.0 b.y.0 (longer a b) some)

-- ---- how near, pixel by pixel, with two units a pixel
module _ (x y x' y' : Units) where
  abbrev from : Pixel
  from = pixel_at square x y

  abbrev to : Pixel
  to = pixel_at square x' y'

  abbrev n : ℕ
  n = longer from to

  pub vector_near : (i : ℕ) (d : Pixel) → 0 < n → i ≤ n
      → (nat_abs (pos (2 * n) *ℤ (get_or (vector from to) i d).x.0 -ℤ exact x.0 x'.0 n i) < 2 * n)
      × (nat_abs (pos (2 * n) *ℤ (get_or (vector from to) i d).y.0 -ℤ exact y.0 y'.0 n i) < 2 * n)
  unfolding along pixel_at pixels_of
  vector_near i d h k = rw (vector_at from to i d h k) (near x.0 x'.0 n i h k, near y.0 y'.0 n i h k)

  pub point_near : n ≡ 0
      → (nat_abs (pos 2 *ℤ from.x.0 -ℤ x.0) ≤ 1) × (nat_abs (pos 2 *ℤ from.x.0 -ℤ x'.0) ≤ 1) × (nat_abs (pos 2 *ℤ from.y.0 -ℤ y.0) ≤ 1) × (nat_abs (pos 2 *ℤ from.y.0 -ℤ y'.0) ≤ 1)
  unfolding pixel_at pixels_of
  point_near e =
      let same : shr_z x'.0 2 ≡ shr_z x.0 2 = ap (λ (p : Pixel). p.x.0) (one_point from to e) in
      let alike : shr_z y'.0 2 ≡ shr_z y.0 2 = ap (λ (p : Pixel). p.y.0) (one_point from to e) in
      (near_end 2 x.0 (omega whole), rw same at (near_end 2 x'.0 (omega whole)), near_end 2 y.0 (omega whole), rw alike at (near_end 2 y'.0 (omega whole)))

-- ---- backwards, in the image
pub same_image : (s : Shape) (pen : Pen) → Fitting s.base pen → (im : List ℕ) (a b : Pixel)
    → stores s pen im (inside s (vector b a)) ≡ stores s pen im (inside s (vector a b))
same_image s pen fit im a b =
    ap (λ (ps : List Pixel). stores s pen im (inside s ps)) (vector_turned a b)
    ∙ ap (stores s pen im) (inside_reverse s (vector a b))
    ∙ stores_reverse s pen fit im (inside s (vector a b))
