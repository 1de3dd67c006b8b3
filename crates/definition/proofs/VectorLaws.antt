-- How many pixels are numbered, and a vector's pixels by one formula for both axes.
use Prim.Native.Nat.{ℕ, zero, suc, ◌+◌, ◌*◌, ◌<◌}
use mathlib.Core.Bool.{Bool, true, false}
use mathlib.Core.List.{[], ◌∷◌}
use mathlib.Core.Path.{◌≡◌, refl, sym, ap, ◌∙◌}
use native.Mathlib.Omega.{arith}
use lib.Dec.{leb}
use lib.ListN.{length, length-append}
use lib.IntN.{ℤ, pos, negsuc, nat_abs, ◌+ℤ◌, ◌-ℤ◌, ◌*ℤ◌}
use borrow.Author.Tests.{leb-true, leb-false}
use Rattle.whole.specs.Parts.{whole, up, dn, add, sub, mul, floor_is}
use Rattle.definition.specs.Choice.{pick}
use Rattle.definition.specs.Units.{pixel}
use Rattle.definition.specs.Vector.{apart_x, apart_y, longer, by_one, rounded, numbered, nth}
use Rattle.definition.specs.declared.Pixel.{Pixel}

pub numbered_length : {A : Type 0} (f : ℕ → A) (k : ℕ) → length (numbered f k) ≡ k
unfolding numbered
numbered_length f zero = refl
numbered_length f (suc k) = length-append (numbered f k) (f k ∷ []) ∙ (let e = numbered_length f k in omega arith)

-- the numerator of a rounded coordinate
abbrev pub top : ℤ → ℤ → ℕ → ℕ → ℤ
top s d n i = pos (2 * n) *ℤ s +ℤ pos (2 * i) *ℤ d +ℤ pos n

pub top_parts : (s d : ℤ) (n i : ℕ) → up (top s d n i) + (2 * (n * dn s) + 2 * (i * dn d)) ≡ dn (top s d n i) + (2 * (n * up s) + 2 * (i * up d) + n)
top_parts s d n i =
    let a = pos (2 * n) *ℤ s in
    let b = pos (2 * i) *ℤ d in
    omega (whole, mul (pos (2 * n)) s, mul (pos (2 * i)) d, add a b, add (a +ℤ b) (pos n))

-- along the longer axis the rounded coordinate is the one that goes by one
pub goes_by_one : (s d : ℤ) (i : ℕ) → 0 < nat_abs d → rounded s d (nat_abs d) i ≡ by_one s d i
unfolding rounded by_one
goes_by_one s (pos k) i h =
    let a = ap (λ (t : ℕ). k * t) (add s (pos i)) in
    floor_is (top s (pos k) k i) (s +ℤ pos i) (2 * k) (omega whole) (omega (whole, top_parts s (pos k) k i)) (omega (whole, top_parts s (pos k) k i))
goes_by_one s (negsuc k) i h =
    let a = ap (λ (t : ℕ). suc k * t) (sub s (pos i)) in
    floor_is (top s (negsuc k) (suc k) i) (s -ℤ pos i) (2 * suc k) (omega whole) (omega (whole, top_parts s (negsuc k) (suc k) i)) (omega (whole, top_parts s (negsuc k) (suc k) i))

-- pixel i by the one formula
unfoldable pub along : Pixel → Pixel → ℕ → Pixel
along a b i = pixel (rounded a.x.0 (apart_x a b) (longer a b) i) (rounded a.y.0 (apart_y a b) (longer a b) i)

pub one_formula : (a b : Pixel) (i : ℕ) → 0 < longer a b → nth a b i ≡ along a b i
unfolding longer nth along
one_formula a b i h = go (leb (nat_abs (apart_y a b)) (nat_abs (apart_x a b))) refl
  where
    go : (t : Bool) → leb (nat_abs (apart_y a b)) (nat_abs (apart_x a b)) ≡ t
        → pick t (pixel (by_one a.x.0 (apart_x a b) i) (rounded a.y.0 (apart_y a b) (longer a b) i))
        (pixel (rounded a.x.0 (apart_x a b) (longer a b) i) (by_one a.y.0 (apart_y a b) i)) ≡ along a b i
    go true e =
        let l = leb-true (nat_abs (apart_y a b)) (nat_abs (apart_x a b)) e in
        let n : longer a b ≡ nat_abs (apart_x a b) = omega whole in
        ap (λ (z : ℤ). pixel z (rounded a.y.0 (apart_y a b) (longer a b) i)) (sym (ap (λ (n : ℕ). rounded a.x.0 (apart_x a b) n i) n ∙ goes_by_one a.x.0 (apart_x a b) i (omega whole)))
    go false e =
        let l = leb-false (nat_abs (apart_y a b)) (nat_abs (apart_x a b)) e in
        let n : longer a b ≡ nat_abs (apart_y a b) = omega whole in
        ap (λ (z : ℤ). pixel (rounded a.x.0 (apart_x a b) (longer a b) i) z) (sym (ap (λ (n : ℕ). rounded a.y.0 (apart_y a b) n i) n ∙ goes_by_one a.y.0 (apart_y a b) i (omega whole)))
