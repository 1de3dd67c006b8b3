-- A vector's coordinates as the machine computes them, over plain variables: by one and rounded.
use Prim.Native.Nat.{ℕ, ◌+◌, ◌-◌, ◌*◌, ◌/◌, ◌≤◌, ◌<◌, max}
use mathlib.Core.Bool.{Bool, true, false}
use mathlib.Core.Path.{◌≡◌, refl, sym, ap, ◌∙◌}
use native.Mathlib.Omega.{arith}
use native.Mathlib.Nat.{mul-le-mul, div-add-mod', div-le_self, mod-lt}
use lib.Dec.{leb}
use lib.IntN.{ℤ, pos, negsuc, nat_abs, ◌+ℤ◌, ◌-ℤ◌}
use lib.Signed.{le_z, ◌≤ℤ◌, ◌<ℤ◌}
use mir.Syntax.{w32}
use mir.Val.{SFits, to_z}
use mir.Facts.{to_z-of_z, to_z_pos}
use Rattle.whole.specs.Parts.{whole, up, dn, add, sub, floor_is}
use Rattle.whole.specs.Bits.{rd, lit, op_fits, op_back}
use Rattle.definition.specs.Units.{pixels}
use Rattle.definition.specs.Vector.{apart_x, apart_y, longer, by_one, rounded, nth}
use Rattle.definition.specs.declared.Pixels.{Pixels}
use Rattle.definition.specs.declared.Pixel.{Pixel}
use Rattle.definition.proofs.VectorLaws.{top, top_parts}
use Rattle.vector.specs.Raised.{Reached, nearest_to}

-- ---- by one
pub by_up : (s d : ℤ) (i : ℕ) → pos 0 ≤ℤ d → by_one s d i ≡ s +ℤ pos i
unfolding by_one
by_up s (pos k) i h = refl
by_up s (negsuc k) i h = absurd h.le

pub by_down : (s d : ℤ) (i : ℕ) → d <ℤ pos 0 → by_one s d i ≡ s -ℤ pos i
unfolding by_one
by_down s (pos k) i h = absurd (omega whole)
by_down s (negsuc k) i h = refl

module _ (start end : Pixels) (i : ℕ) (hs : Reached start) (he : Reached end) (hi : i < 4096) where
  fits_start : SFits w32 start.0
  fits_start = omega whole

  fits_end : SFits w32 end.0
  fits_end = omega whole

  step : to_z w32 i ≡ pos i
  step = to_z_pos w32 (omega whole)

  room_up : SFits w32 (start.0 +ℤ pos i)
  room_up = omega (whole, add start.0 (pos i))

  room_down : SFits w32 (start.0 -ℤ pos i)
  room_down = omega (whole, sub start.0 (pos i))

  pub by_one_up : le_z (rd w32 start.0) (rd w32 end.0) ≡ true → pixels (rd w32 (rd w32 start.0 +ℤ to_z w32 i)) ≡ pixels (by_one start.0 (end.0 -ℤ start.0) i)
  by_one_up t =
      let s = to_z-of_z fits_start in
      let e = to_z-of_z fits_end in
      let h : pos 0 ≤ℤ (end.0 -ℤ start.0) = omega (whole, sub end.0 start.0) in
      ap pixels (op_back ◌+ℤ◌ s step room_up ∙ sym (by_up start.0 (end.0 -ℤ start.0) i h))

  pub by_one_down : le_z (rd w32 start.0) (rd w32 end.0) ≡ false → pixels (rd w32 (rd w32 start.0 -ℤ to_z w32 i)) ≡ pixels (by_one start.0 (end.0 -ℤ start.0) i)
  by_one_down t =
      let s = to_z-of_z fits_start in
      let e = to_z-of_z fits_end in
      let h : (end.0 -ℤ start.0) <ℤ pos 0 = omega (whole, sub end.0 start.0) in
      ap pixels (op_back ◌-ℤ◌ s step room_down ∙ sym (by_down start.0 (end.0 -ℤ start.0) i h))

-- ---- rounded
-- each of the two products fits where the coordinates and n do
pub parts_fit : (s e n i : ℕ) → s < 4096 → e < 4096 → n < 4096 → i ≤ n → (s * (n - i) ≤ 4095 * 4095) × (e * i ≤ 4095 * 4095)
parts_fit s e n i hs he hn hi =
    let ms : s ≤ 4095 = omega arith in
    let me : e ≤ 4095 = omega arith in
    let mt : n - i ≤ 4095 = omega arith in
    let mi : i ≤ 4095 = omega arith in
    (mul-le-mul ms mt, mul-le-mul me mi)

module _ (a b : ℤ) {s e n i : ℕ} (ps : pos s ≡ a +ℤ pos 2048) (pe : pos e ≡ b +ℤ pos 2048) (hn : 0 < n) (hi : i ≤ n) where
  -- raised, the rounded coordinate is the natural one
  nearest_is : pos (nearest_to s e n i) -ℤ pos 2048 ≡ rounded a (b -ℤ a) n i
  unfolding rounded
  nearest_is =
      let k = 2 * (s * (n - i) + e * i) + n in
      let q = k / (2 * n) in
      let x = top a (b -ℤ a) n i in
      let z = pos q -ℤ pos 2048 in
      let ha : up a + 2048 ≡ dn a + s = omega (whole, add a (pos 2048)) in
      let hb : up b + 2048 ≡ dn b + e = omega (whole, add b (pos 2048)) in
      let hz : up z + 2048 ≡ dn z + q = omega (whole, sub (pos q) (pos 2048)) in
      let hd : up (b -ℤ a) + s ≡ dn (b -ℤ a) + e = omega (whole, sub b a) in
      let na = ap (λ (t : ℕ). n * t) ha in
      let id = ap (λ (t : ℕ). i * t) hd in
      let nz = ap (λ (t : ℕ). n * t) hz in
      let w : n - i + i ≡ n = omega arith in
      let sn = ap (λ (t : ℕ). s * t) w in
      let dv = div-add-mod' k (2 * n) in
      let m : 0 < 2 * n = omega arith in
      let r = mod-lt k m in
      sym (floor_is x z (2 * n) m (omega (arith, top_parts a (b -ℤ a) n i)) (omega (arith, top_parts a (b -ℤ a) n i)))

  module _ (hs : s < 4096) (he : e < 4096) (top : n < 4096) {q : ℕ} (eq : q ≡ nearest_to s e n i) where
    small : q < 134217728
    small = omega (arith, parts_fit s e n i hs he top hi, div-le_self (2 * (s * (n - i) + e * i) + n) (2 * n))

    lowered : SFits w32 (pos q -ℤ pos 2048)
    lowered = let l = small in omega (whole, sub (pos q) (pos 2048))

    read : to_z w32 q ≡ pos q
    read = let l = small in to_z_pos w32 (omega whole)

    pub lowered_fits : SFits w32 (to_z w32 q -ℤ pos 2048)
    lowered_fits = op_fits ◌-ℤ◌ read (lit (pos 2048)) lowered

    pub rounded_is : pixels (rd w32 (to_z w32 q -ℤ pos 2048)) ≡ pixels (rounded a (b -ℤ a) n i)
    rounded_is = ap pixels (op_back ◌-ℤ◌ read (lit (pos 2048)) lowered ∙ ap (λ (t : ℕ). pos t -ℤ pos 2048) eq ∙ nearest_is)

-- ---- pixel i
module _ (a b : Pixel) (i : ℕ) {across : Bool} {n : ℕ} {x y : Pixels} (e : across ≡ leb (nat_abs (apart_y a b)) (nat_abs (apart_x a b))) (en : n ≡ max (nat_abs (apart_x a b)) (nat_abs (apart_y a b))) where
  pub nth_across : across ≡ true → x ≡ pixels (by_one a.x.0 (apart_x a b) i) → y ≡ pixels (rounded a.y.0 (apart_y a b) n i) → record { x = x; y = y } ≡ nth a b i
  unfolding nth longer
  nth_across t ex ey = rw (← e, t, ← en, ex, ey)

  pub nth_up : across ≡ false → x ≡ pixels (rounded a.x.0 (apart_x a b) n i) → y ≡ pixels (by_one a.y.0 (apart_y a b) i) → record { x = x; y = y } ≡ nth a b i
  unfolding nth longer
  nth_up t ex ey = rw (← e, t, ← en, ex, ey)
