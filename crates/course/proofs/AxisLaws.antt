-- The two axes of a course, and the bounds of a course between coordinates below 4,096.
use Rattle.std.proofs.Common.{◌≡◌, ℕ, ◌+◌, ◌-◌, ◌*◌, ◌^◌, ◌<◌, ◌≤◌, Bool, true, false, leb, refl, ap, arith, le-leb, leb-false, leb-true}
use borrow.Author.Tests.{lt-leb}
use Rattle.definition.specs.Choice.{pick}
use Rattle.course.specs.Course.{axis_of, along, course_of, visible, part, number, Straight, Sound}
use Rattle.course.specs.declared.Axis.{Axis}
use Rattle.course.proofs.GoneLaws.{gone_first}
use Rattle.course.proofs.FieldLaws.{visible_is}

-- ---- one axis
axis_up : (w s e : ℕ) → s ≤ e → axis_of w s e ≡ record { from = s; size = e - s; down = 0; weight = w; stride = w }
unfolding axis_of
axis_up w s e l = rw (le-leb s e l)

axis_down : (w s e : ℕ) → e < s → axis_of w s e ≡ record { from = 4607 - s; size = s - e; down = 1; weight = w; stride = 2 ^ 64 - w }
unfolding axis_of
axis_down w s e l = rw (lt-leb s e l)

-- what holds of an axis in either direction
pub either : (w s e : ℕ) (P : Axis → Type 0) → (s ≤ e → P (record { from = s; size = e - s; down = 0; weight = w; stride = w })) → (e < s → P (record { from = 4607 - s; size = s - e; down = 1; weight = w; stride = 2 ^ 64 - w })) → P (axis_of w s e)
either w s e P up down = go (leb s e) refl
  where
    go : (t : Bool) → leb s e ≡ t → P (axis_of w s e)
    go true k = let l = leb-true s e k in rw (axis_up w s e l) (up l)
    go false k = let l = leb-false s e k in rw (axis_down w s e l) (down l)

module _ (w s e : ℕ) where
  pub down_least : {x : Axis} (n : ℕ) → x ≡ axis_of w s e → x.size ≤ n → x.down ≤ n
  down_least n k = rw k (either w s e (λ x. x.size ≤ n → x.down ≤ n) (λ l h. omega arith) (λ l h. omega arith))

  weight_is : (axis_of w s e).weight ≡ w
  weight_is = either w s e (λ x. x.weight ≡ w) (λ l. refl) (λ l. refl)

  size_few : s < 4096 → e < 4096 → (axis_of w s e).size < 4096
  size_few hs he = either w s e (λ x. x.size < 4096) (λ l. omega arith) (λ l. omega arith)

  straight : w ≤ 512 → Straight (axis_of w s e)
  straight h = either w s e Straight (λ l. record { weight = h; stride = refl }) (λ l. record { weight = h; stride = refl })

  -- the part of the start is its own coordinate
  part_first : 2048 ≤ (axis_of w s e).from → (axis_of w s e).from < 2560 → s * w ≡ 2048 * w + part (axis_of w s e) 0
  unfolding part
  part_first = either w s e (λ x. 2048 ≤ x.from → x.from < 2560 → s * w ≡ 2048 * w + part x 0) up down
    where
      up : s ≤ e → 2048 ≤ s → s < 2560 → s * w ≡ 2048 * w + (s + 0 - 2048) * w
      up l h u = let k : s ≡ 2048 + (s + 0 - 2048) = omega arith in let q = ap (λ (t : ℕ). t * w) k in omega arith

      down : e < s → 2048 ≤ 4607 - s → 4607 - s < 2560 → s * w ≡ 2048 * w + (2559 - (4607 - s + 0)) * w
      down l h u = let k : s ≡ 2048 + (2559 - (4607 - s + 0)) = omega arith in let q = ap (λ (t : ℕ). t * w) k in omega arith

-- ---- both
module _ (x y x1 y1 : ℕ) {h v : Axis} {p : ℕ} (eh : h ≡ axis_of 1 x x1) (ev : v ≡ axis_of 512 y y1) (ep : p ≡ 512 * y + x) where
  pub course_across : v.size ≤ h.size → along p h v ≡ course_of x y x1 y1
  unfolding course_of
  course_across l = rw (← eh, ← ev, ← ep, le-leb v.size h.size l)

  pub course_upright : h.size < v.size → along p v h ≡ course_of x y x1 y1
  unfolding course_of
  course_upright l = rw (← eh, ← ev, ← ep, lt-leb v.size h.size l)

-- one axis with its weight v, the other with w
module _ (v w a a1 b b1 : ℕ) {p : ℕ} (ep : p ≡ a * v + b * w) (e : v + w ≡ 513) (hv : v ≤ 512) (hw : w ≤ 512) (ha : a < 4096) (ha1 : a1 < 4096) where
  abbrev long : Axis
  long = axis_of v a a1

  abbrev short : Axis
  short = axis_of w b b1

  sound_along : short.size ≤ long.size → Sound (along p long short)
  sound_along l =
      record {
        long = straight v a a1 hv;
        short = straight w b b1 hw;
        weights = let t = weight_is v a a1 in let u = weight_is w b b1 in omega arith;
        few = size_few v a a1 ha ha1;
        fewer = l;
        half = omega arith;
        start = start;
      }
    where
      start : 0 < long.size → visible (along p long short) 0 ≡ true → p ≡ 1050624 + number (along p long short) 0
      start some z =
          let g = gone_first long.size short.size (long.size - short.down) some (omega arith) in
          let r = rw g at (visible_is (along p long short) 0 z) in
          let i = part_first v a a1 (omega arith) (omega arith) in
          let j = part_first w b b1 (omega arith) (omega arith) in
          rw g (omega arith)

pub sound : (x y x1 y1 : ℕ) → x < 4096 → y < 4096 → x1 < 4096 → y1 < 4096 → Sound (course_of x y x1 y1)
unfolding course_of
sound x y x1 y1 hx hy hx1 hy1 = go (leb (axis_of 512 y y1).size (axis_of 1 x x1).size) refl
  where
    go : (t : Bool) → leb (axis_of 512 y y1).size (axis_of 1 x x1).size ≡ t → Sound (pick t (along (512 * y + x) (axis_of 1 x x1) (axis_of 512 y y1)) (along (512 * y + x) (axis_of 512 y y1) (axis_of 1 x x1)))
    go true e = sound_along 1 512 x x1 y y1 (omega arith) (omega arith) (omega arith) (omega arith) hx hx1 (leb-true (axis_of 512 y y1).size (axis_of 1 x x1).size e)
    go false e = let l = leb-false (axis_of 512 y y1).size (axis_of 1 x x1).size e in sound_along 512 1 y y1 x x1 (omega arith) (omega arith) (omega arith) (omega arith) hy hy1 (omega arith)
