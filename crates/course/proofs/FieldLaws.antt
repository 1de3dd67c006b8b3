-- Which pixels of a course are in the field: those of a span, by each axis.
use Rattle.std.proofs.Common.{◌≡◌, ℕ, suc, ◌+◌, ◌-◌, ◌*◌, ◌/◌, ◌%◌, ◌<◌, ◌≤◌, min, max, Bool, true, false, ltb, leb, refl, mul-le-mul_right, mod-lt, div-lt_iff_lt-mul, mul-le-mul_left, div-add-mod', arith, ltb-false, ltb-true, le-ltb, lt-ltb, le-leb, leb-false, leb-true}
use mathlib.Core.Bool.{and-false}
use native.Mathlib.Nat.{lt_of_mul-lt-mul_left}
use borrow.Author.Tests.{lt-leb}
use Rattle.definition.proofs.Plain.{both_true}
use Rattle.course.specs.Course.{gone, gone_at, within, visible, Arrives, Spans}
use Rattle.course.specs.declared.Course.{Course}
use Rattle.course.proofs.GoneLaws.{gone_most}

-- ---- the first pixel at which the shorter axis has made so many steps
module _ (n m half k : ℕ) (p : 0 < n) (hh : half ≤ n) where
  pub arrives_never : m < k → Arrives n m half k (n + 1)
  arrives_never l = record { most = omega arith; before = λ i u r. (let g = gone_most n m half i p (omega arith) r in omega arith); from = λ i u r. absurd (omega arith) }

  module _ (some : 0 < k) (enough : k ≤ m) where
    abbrev over : ℕ
    over = 2 * (n * k) - half + 2 * m - 1

    nk : n ≤ n * k
    nk = omega (arith, mul-le-mul_left n some)

    split : over / (2 * m) * (2 * m) + over % (2 * m) ≡ over
    split = div-add-mod' over (2 * m)

    pub arrives_at : Arrives n m half k (over / (2 * m))
    unfolding gone
    arrives_at = record { most = most; before = before; from = from }
      where
        most : over / (2 * m) ≤ suc n
        most =
            let a = mul-le-mul_left n enough in
            let b = split in
            let c = nk in
            let l : 2 * m * (over / (2 * m)) < 2 * m * suc n = omega arith in
            let r : over / (2 * m) < suc n = lt_of_mul-lt-mul_left (2 * m) l in
            omega arith

        before : (i : ℕ) → i < over / (2 * m) → i ≤ n → (2 * (i * m) + half) / (2 * n) < k
        before i l r =
            let a = mul-le-mul_right m l in
            let b = split in
            let c = nk in
            let t : 0 < 2 * n = omega arith in
            let u : 2 * (i * m) + half < k * (2 * n) = omega arith in
            (div-lt_iff_lt-mul t).1 u

        from : (i : ℕ) → over / (2 * m) ≤ i → i ≤ n → k ≤ (2 * (i * m) + half) / (2 * n)
        from i l r =
            let a = mul-le-mul_right m l in
            let b = split in
            let c = nk in
            let t : 0 < 2 * m = omega arith in
            let s = mod-lt over t in
            let t : 0 < 2 * n = omega arith in
            let q = div-add-mod' (2 * (i * m) + half) (2 * n) in
            let w = mod-lt (2 * (i * m) + half) t in
            let v : 2 * n * k < 2 * n * suc ((2 * (i * m) + half) / (2 * n)) = omega arith in
            let z : k < suc ((2 * (i * m) + half) / (2 * n)) = lt_of_mul-lt-mul_left (2 * n) v in
            omega arith

-- ---- one axis
within_yes : (r : ℕ) → 2048 ≤ r → r < 2560 → within r ≡ true
unfolding within
within_yes r l u = rw (le-leb 2048 r l, lt-ltb r 2560 u)

within_before : (r : ℕ) → r < 2048 → within r ≡ false
unfolding within
within_before r l = rw (lt-leb 2048 r l)

within_after : (r : ℕ) → 2560 ≤ r → within r ≡ false
unfolding within
within_after r l = let u : 2048 ≤ r = omega arith in rw (le-leb 2048 r u, le-ltb r 2560 l)

pub within_cases : (r : ℕ) (P : Bool → Type 0) → (2048 ≤ r → r < 2560 → P true) → (r < 2048 → P false) → (2560 ≤ r → P false) → P (within r)
within_cases r P here early late = go (leb 2048 r) (ltb r 2560) refl refl
  where
    go : (s t : Bool) → leb 2048 r ≡ s → ltb r 2560 ≡ t → P (within r)
    go true true a b = let l = leb-true 2048 r a in let u = ltb-true r 2560 b in rw (within_yes r l u) (here l u)
    go true false a b = let u = ltb-false r 2560 b in rw (within_after r u) (late u)
    go false t a b = let l = leb-false 2048 r a in rw (within_before r l) (early l)

pub within_is : (r : ℕ) → within r ≡ true → (2048 ≤ r) × (r < 2560)
unfolding within
within_is r e = let b = (both_true {s = leb 2048 r} {t = ltb r 2560}).0 e in (leb-true 2048 r b.0, ltb-true r 2560 b.1)

-- ---- both
module _ (c : Course) (i : ℕ) (e : visible c i ≡ true) where
  pub visible_is : (2048 ≤ c.long.from + i) × (c.long.from + i < 2560) × (2048 ≤ c.short.from + gone_at c i) × (c.short.from + gone_at c i < 2560)
  unfolding visible
  visible_is =
      let b = (both_true {s = within (c.long.from + i)} {t = within (c.short.from + gone_at c i)}).0 e in
      let l = within_is (c.long.from + i) b.0 in
      let s = within_is (c.short.from + gone_at c i) b.1 in
      (l.0, l.1, s.0, s.1)

module _ (c : Course) {kf ke lf le f e : ℕ} (ekf : kf ≡ 2048 - c.short.from) (eke : ke ≡ 2560 - c.short.from) (elf : lf ≡ 2048 - c.long.from) (ele : le ≡ 2560 - c.long.from) (af : Arrives c.long.size c.short.size c.half kf f) (ae : Arrives c.long.size c.short.size c.half ke e) {first end : ℕ} (ef : first ≡ max lf f) (ee : end ≡ min le e) where
  pub spans : Spans c first end
  unfolding visible
  spans = record { most = let m = ae.most in omega arith; seen = seen; before = before; after = after }
    where
      seen : (i : ℕ) → first ≤ i → i < end → visible c i ≡ true
      seen i l u =
          let m = ae.most in
          let a = af.from i (omega arith) (omega arith) in
          let b = ae.before i (omega arith) (omega arith) in
          rw (within_yes (c.long.from + i) (omega arith) (omega arith), within_yes (c.short.from + gone_at c i) (omega arith) (omega arith))

      before : (i : ℕ) → i < first → i ≤ c.long.size → visible c i ≡ false
      before i l r = go (ltb i f) refl
        where
          go : (t : Bool) → ltb i f ≡ t → visible c i ≡ false
          go true k = let a = af.before i (ltb-true i f k) r in rw (within_before (c.short.from + gone_at c i) (omega arith), and-false (within (c.long.from + i)))
          go false k = rw (within_before (c.long.from + i) (omega (arith, ltb-false i f k)))

      after : (i : ℕ) → end ≤ i → i ≤ c.long.size → visible c i ≡ false
      after i l r = go (leb e i) refl
        where
          go : (t : Bool) → leb e i ≡ t → visible c i ≡ false
          go true k = let a = ae.from i (leb-true e i k) r in rw (within_after (c.short.from + gone_at c i) (omega arith), and-false (within (c.long.from + i)))
          go false k = rw (within_after (c.long.from + i) (omega (arith, leb-false e i k)))
