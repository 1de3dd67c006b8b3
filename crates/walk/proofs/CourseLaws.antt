-- A vector by its course: in natural numbers the course has the pixels of the definition.
use Prim.Native.Nat.{ℕ, suc, ◌+◌, ◌-◌, ◌*◌, ◌/◌, ◌≤◌, ◌<◌}
use mathlib.Core.Bool.{Bool, true, false, ◌&&◌, and-false, and_comm}
use mathlib.Core.Path.{◌≡◌, refl, sym, ap, ◌∙◌}
use native.Mathlib.Omega.{arith}
use native.Mathlib.Nat.{div-add-mod', mod-lt}
use lib.Dec.{leb}
use lib.IntN.{ℤ, pos, negsuc, nat_abs, ◌+ℤ◌, ◌-ℤ◌}
use lib.Signed.{le_z, lt_z, ◌≤ℤ◌, ◌<ℤ◌}
use borrow.Author.Tests.{leb-true, leb-false}
use Rattle.whole.specs.Parts.{whole, add, sub, abs, floor_is}
use Rattle.definition.specs.Choice.{pick}
use Rattle.definition.specs.Units.{pixel}
use Rattle.definition.specs.Image.{below, in_field}
use Rattle.definition.specs.Vector.{apart_x, apart_y, longer, by_one, rounded, nth}
use Rattle.definition.specs.declared.Pixel.{Pixel}
use Rattle.definition.proofs.Plain.{both_true}
use Rattle.definition.proofs.VectorLaws.{top, top_parts}
use Rattle.course.specs.Course.{axis_of, along, course_of, gone, gone_at, within, visible, part, number}
use Rattle.course.specs.declared.Axis.{Axis}
use Rattle.course.specs.declared.Course.{Course}
use Rattle.course.proofs.AxisLaws.{either, sound}
use Rattle.course.proofs.FieldLaws.{within_is, within_cases}
use Rattle.course.proofs.GoneLaws.{gone_most}
use Rattle.vector.proofs.CoordinateLaws.{by_up, by_down}
use Rattle.walk.specs.Walk.{Tells, Follows}

-- ---- up or down
rounded_up : (s d : ℤ) (n i : ℕ) → 0 < n → pos 0 ≤ℤ d → rounded s d n i ≡ s +ℤ pos (gone n (nat_abs d) n i)
unfolding rounded gone
rounded_up s (negsuc m) n i h l = absurd l.le
rounded_up s (pos m) n i h l =
    let k = 2 * (i * m) + n in
    let q = k / (2 * n) in
    let p : 0 < 2 * n = omega arith in
    let e = div-add-mod' k (2 * n) in
    let r = mod-lt k p in
    let a = ap (λ (t : ℕ). n * t) (add s (pos q)) in
    floor_is (top s (pos m) n i) (s +ℤ pos q) (2 * n) p (omega (whole, top_parts s (pos m) n i)) (omega (whole, top_parts s (pos m) n i))

rounded_down : (s d : ℤ) (n i : ℕ) → 0 < n → d <ℤ pos 0 → rounded s d n i ≡ s -ℤ pos (gone n (nat_abs d) (n - 1) i)
unfolding rounded gone
rounded_down s (pos m) n i h l = absurd (omega whole)
rounded_down s (negsuc m) n i h l =
    let k = 2 * (i * suc m) + (n - 1) in
    let q = k / (2 * n) in
    let p : 0 < 2 * n = omega arith in
    let e = div-add-mod' k (2 * n) in
    let r = mod-lt k p in
    let a = ap (λ (t : ℕ). n * t) (sub s (pos q)) in
    floor_is (top s (negsuc m) n i) (s -ℤ pos q) (2 * n) p (omega (whole, top_parts s (negsuc m) n i)) (omega (whole, top_parts s (negsuc m) n i))

-- ---- a coordinate in the field
below_yes : (z : ℤ) → le_z (pos 0) z ≡ true → lt_z z (pos 512) ≡ true → below 512 z ≡ true
below_yes z l u = rw (l, u)

below_low : (z : ℤ) → le_z (pos 0) z ≡ false → below 512 z ≡ false
below_low z l = rw l

below_high : (z : ℤ) → lt_z z (pos 512) ≡ false → below 512 z ≡ false
below_high z u = rw (u, and-false (le_z (pos 0) z))

-- ---- one axis, from s to t
module _ (s t : ℤ) {r e : ℕ} (pr : pos r ≡ s +ℤ pos 2048) (pe : pos e ≡ t +ℤ pos 2048) (hr : r < 4096) (w : ℕ) where
  abbrev d : ℤ
  d = t -ℤ s

  rises : r ≤ e → pos 0 ≤ℤ d
  rises l = omega (whole, add s (pos 2048), add t (pos 2048), sub t s)

  falls : e < r → d <ℤ pos 0
  falls l = omega (whole, add s (pos 2048), add t (pos 2048), sub t s)

  size_up : r ≤ e → e - r ≡ nat_abs d
  size_up l = omega (whole, add s (pos 2048), add t (pos 2048), sub t s, abs (t -ℤ s))

  size_down : e < r → r - e ≡ nat_abs d
  size_down l = omega (whole, add s (pos 2048), add t (pos 2048), sub t s, abs (t -ℤ s))

  size_is : (axis_of w r e).size ≡ nat_abs d
  size_is = either w r e (λ x. x.size ≡ nat_abs d) size_up size_down

  rounded_is : (n i : ℕ) → 0 < n → rounded s d n i ≡ by_one s d (gone n (axis_of w r e).size (n - (axis_of w r e).down) i)
  rounded_is n i h = either w r e (λ x. rounded s d n i ≡ by_one s d (gone n x.size (n - x.down) i)) up down
    where
      up : r ≤ e → rounded s d n i ≡ by_one s d (gone n (e - r) (n - 0) i)
      up l = let z : n - 0 ≡ n = omega arith in rw (size_up l, z, by_up s d (gone n (nat_abs d) n i) (rises l)) (rounded_up s d n i h (rises l))

      down : e < r → rounded s d n i ≡ by_one s d (gone n (r - e) (n - 1) i)
      down l = rw (size_down l, by_down s d (gone n (nat_abs d) (n - 1) i) (falls l)) (rounded_down s d n i h (falls l))

  within_below : (k : ℕ) → k ≤ (axis_of w r e).size → within ((axis_of w r e).from + k) ≡ below 512 (by_one s d k)
  within_below k = either w r e (λ x. k ≤ x.size → within (x.from + k) ≡ below 512 (by_one s d k)) up down
    where
      up : r ≤ e → k ≤ e - r → within (r + k) ≡ below 512 (by_one s d k)
      up l h =
          let z = s +ℤ pos k in
          rw (by_up s d k (rises l))
          (within_cases (r + k) (λ b. b ≡ below 512 z) (λ a b. sym (below_yes z (omega (whole, add s (pos 2048), add s (pos k))) (omega (whole, add s (pos 2048), add s (pos k)))))
          (λ a. sym (below_low z (omega (whole, add s (pos 2048), add s (pos k)))))
          (λ a. sym (below_high z (omega (whole, add s (pos 2048), add s (pos k))))))

      down : e < r → k ≤ r - e → within (4607 - r + k) ≡ below 512 (by_one s d k)
      down l h =
          let z = s -ℤ pos k in
          rw (by_down s d k (falls l))
          (within_cases (4607 - r + k) (λ b. b ≡ below 512 z) (λ a b. sym (below_yes z (omega (whole, add s (pos 2048), sub s (pos k))) (omega (whole, add s (pos 2048), sub s (pos k)))))
          (λ a. sym (below_high z (omega (whole, add s (pos 2048), sub s (pos k)))))
          (λ a. sym (below_low z (omega (whole, add s (pos 2048), sub s (pos k))))))

  part_is : (k : ℕ) → k ≤ (axis_of w r e).size → within ((axis_of w r e).from + k) ≡ true → part (axis_of w r e) k ≡ nat_abs (by_one s d k) * w
  unfolding part
  part_is k h i = either w r e (λ x. k ≤ x.size → (2048 ≤ x.from + k) × (x.from + k < 2560) → part x k ≡ nat_abs (by_one s d k) * w) up down h (within_is ((axis_of w r e).from + k) i)
    where
      up : r ≤ e → k ≤ e - r → (2048 ≤ r + k) × (r + k < 2560) → (r + k - 2048) * w ≡ nat_abs (by_one s d k) * w
      up l h i = let z = s +ℤ pos k in let q : r + k - 2048 ≡ nat_abs z = omega (whole, add s (pos 2048), add s (pos k), abs z) in rw (by_up s d k (rises l), q)

      down : e < r → k ≤ r - e → (2048 ≤ 4607 - r + k) × (4607 - r + k < 2560) → (2559 - (4607 - r + k)) * w ≡ nat_abs (by_one s d k) * w
      down l h i = let z = s -ℤ pos k in let q : 2559 - (4607 - r + k) ≡ nat_abs z = omega (whole, add s (pos 2048), sub s (pos k), abs z) in rw (by_down s d k (falls l), q)

-- ---- two axes, of which the first is the longer
module _ (s t s' t' : ℤ) {r e r' e' : ℕ} (pr : pos r ≡ s +ℤ pos 2048) (pe : pos e ≡ t +ℤ pos 2048) (pr' : pos r' ≡ s' +ℤ pos 2048) (pe' : pos e' ≡ t' +ℤ pos 2048) (hr : r < 4096) (hr' : r' < 4096) (w w' p i : ℕ) where
  abbrev long : Axis
  long = axis_of w r e

  abbrev short : Axis
  short = axis_of w' r' e'

  abbrev course : Course
  course = along p long short

  -- the two coordinates of pixel i
  abbrev ahead : ℤ
  ahead = by_one s (t -ℤ s) i

  abbrev aside : ℤ
  aside = by_one s' (t' -ℤ s') (gone_at course i)

  module _ (some : 0 < long.size) (less : short.size ≤ long.size) (few : i ≤ long.size) where
    few_aside : gone_at course i ≤ short.size
    few_aside = gone_most long.size short.size (long.size - short.down) i some (omega arith) few

    seen_both : visible course i ≡ (below 512 ahead && below 512 aside)
    unfolding visible
    seen_both = rw (within_below s t pr pe hr w i few, within_below s' t' pr' pe' hr' w' (gone_at course i) few_aside)

    number_both : visible course i ≡ true → number course i ≡ nat_abs ahead * w + nat_abs aside * w'
    unfolding visible
    number_both v =
        let b = (both_true {s = within (long.from + i)} {t = within (short.from + gone_at course i)}).0 v in
        rw (part_is s t pr pe hr w i few b.0, part_is s' t' pr' pe' hr' w' (gone_at course i) few_aside b.1)

-- ---- from a to b
module _ (a b : Pixel) {x y x1 y1 : ℕ} (ex : pos x ≡ a.x.0 +ℤ pos 2048) (ey : pos y ≡ a.y.0 +ℤ pos 2048) (ex1 : pos x1 ≡ b.x.0 +ℤ pos 2048) (ey1 : pos y1 ≡ b.y.0 +ℤ pos 2048) (hx : x < 4096) (hy : y < 4096) where
  abbrev h : Axis
  h = axis_of 1 x x1

  abbrev v : Axis
  v = axis_of 512 y y1

  abbrev p : ℕ
  p = 512 * y + x

  wide_is : h.size ≡ nat_abs (apart_x a b)
  wide_is = size_is a.x.0 b.x.0 ex ex1 hx 1

  high_is : v.size ≡ nat_abs (apart_y a b)
  high_is = size_is a.y.0 b.y.0 ey ey1 hy 512

  -- the longer axis is X, or it is Y
  by_axis : (P : Course → Type 0) → (leb (nat_abs (apart_y a b)) (nat_abs (apart_x a b)) ≡ true → P (along p h v)) → (leb (nat_abs (apart_y a b)) (nat_abs (apart_x a b)) ≡ false → P (along p v h)) → P (course_of x y x1 y1)
  unfolding course_of
  by_axis P across upright = go (leb v.size h.size) refl
    where
      go : (t : Bool) → leb v.size h.size ≡ t → P (pick t (along p h v) (along p v h))
      go true e = across (rw (wide_is, high_is) at e)
      go false e = upright (rw (wide_is, high_is) at e)

  long_across : leb (nat_abs (apart_y a b)) (nat_abs (apart_x a b)) ≡ true → h.size ≡ longer a b
  unfolding longer
  long_across e = let l = leb-true (nat_abs (apart_y a b)) (nat_abs (apart_x a b)) e in wide_is ∙ omega arith

  long_upright : leb (nat_abs (apart_y a b)) (nat_abs (apart_x a b)) ≡ false → v.size ≡ longer a b
  unfolding longer
  long_upright e = let l = leb-false (nat_abs (apart_y a b)) (nat_abs (apart_x a b)) e in high_is ∙ omega arith

  longer_is : (course_of x y x1 y1).long.size ≡ longer a b
  longer_is = by_axis (λ c. c.long.size ≡ longer a b) long_across long_upright

  module _ (i : ℕ) (some : 0 < longer a b) (few : i ≤ longer a b) where
    module _ (e : leb (nat_abs (apart_y a b)) (nat_abs (apart_x a b)) ≡ true) where
      nth_across : nth a b i ≡ pixel (by_one a.x.0 (apart_x a b) i) (by_one a.y.0 (apart_y a b) (gone_at (along p h v) i))
      unfolding nth
      nth_across = let n = long_across e in rw (e, ← n) (ap (λ (z : ℤ). pixel (by_one a.x.0 (apart_x a b) i) z) (rounded_is a.y.0 b.y.0 ey ey1 hy 512 h.size i (omega arith)))

      less_across : v.size ≤ h.size
      less_across = omega (arith, wide_is, high_is, leb-true (nat_abs (apart_y a b)) (nat_abs (apart_x a b)) e)

      tells_across : Tells (along p h v) i (nth a b i)
      unfolding in_field
      tells_across =
          let n = long_across e in
          rw nth_across
          (record {
            seen = seen_both a.x.0 b.x.0 a.y.0 b.y.0 ex ex1 ey ey1 hx hy 1 512 p i (omega arith) less_across (omega arith);
            counted = λ t. number_both a.x.0 b.x.0 a.y.0 b.y.0 ex ex1 ey ey1 hx hy 1 512 p i (omega arith) less_across (omega arith) t ∙ omega arith;
          })

    module _ (e : leb (nat_abs (apart_y a b)) (nat_abs (apart_x a b)) ≡ false) where
      nth_upright : nth a b i ≡ pixel (by_one a.x.0 (apart_x a b) (gone_at (along p v h) i)) (by_one a.y.0 (apart_y a b) i)
      unfolding nth
      nth_upright = let n = long_upright e in rw (e, ← n) (ap (λ (z : ℤ). pixel z (by_one a.y.0 (apart_y a b) i)) (rounded_is a.x.0 b.x.0 ex ex1 hx 1 v.size i (omega arith)))

      less_upright : h.size ≤ v.size
      less_upright = let l = leb-false (nat_abs (apart_y a b)) (nat_abs (apart_x a b)) e in omega (arith, wide_is, high_is)

      tells_upright : Tells (along p v h) i (nth a b i)
      unfolding in_field
      tells_upright =
          let n = long_upright e in
          let g = gone_at (along p v h) i in
          rw nth_upright
          (record {
            seen = seen_both a.y.0 b.y.0 a.x.0 b.x.0 ey ey1 ex ex1 hy hx 512 1 p i (omega arith) less_upright (omega arith) ∙ and_comm (below 512 (by_one a.y.0 (apart_y a b) i)) (below 512 (by_one a.x.0 (apart_x a b) g));
            counted = λ t. number_both a.y.0 b.y.0 a.x.0 b.x.0 ey ey1 ex ex1 hy hx 512 1 p i (omega arith) less_upright (omega arith) t ∙ omega arith;
          })

    tells : Tells (course_of x y x1 y1) i (nth a b i)
    tells = by_axis (λ c. Tells c i (nth a b i)) tells_across tells_upright

  pub follows : x1 < 4096 → y1 < 4096 → Follows a b (course_of x y x1 y1)
  follows hx1 hy1 = record { sound = sound x y x1 y1 hx hy hx1 hy1; long = longer_is; tells = λ some i few. tells i some few }
