-- The mark of a pixel: what it is at the start, and that a step of the code comes from it to the next one's.
use Rattle.std.proofs.Common.{◌≡◌, ℕ, zero, suc, ◌+◌, ◌-◌, ◌*◌, ◌%◌, ◌^◌, ◌<◌, ◌≤◌, Bool, true, false, eqb, ltb, refl, ap, ◌∙◌, add-zero, mul-le-mul_right, arith, ltb-false, ltb-true, le-ltb, lt-ltb}
use lib.Arith.{digits_mod}
use Rattle.definition.specs.Choice.{pick}
use Rattle.course.specs.Course.{above, gone_at, carried_at, visible, part, number, mark, paces_of, stepped, marks, Straight, Sound, Spans}
use Rattle.course.specs.declared.Axis.{Axis}
use Rattle.course.specs.declared.Course.{Course}
use Rattle.course.proofs.GoneLaws.{goes_straight, goes_aslant, carried_less, carried_first}
use Rattle.course.proofs.FieldLaws.{visible_is}

-- ---- the number of a pixel, from one to the next
module _ (x : Axis) (h : Straight x) (k : ℕ) (l : 2048 ≤ x.from + k) (u : x.from + k < 2560) where
  part_most : part x k ≤ 511 * x.weight
  unfolding part
  part_most = go (eqb x.down 0)
    where
      go : (t : Bool) → pick t (x.from + k - 2048) (2559 - (x.from + k)) * x.weight ≤ 511 * x.weight
      go true = let r : x.from + k - 2048 ≤ 511 = omega arith in mul-le-mul_right x.weight r
      go false = let r : 2559 - (x.from + k) ≤ 511 = omega arith in mul-le-mul_right x.weight r

  -- a step of an axis, beside all else that a mark has
  part_on : (z : ℕ) → z < 2 ^ 60 → x.from + k + 1 < 2560 → (part x k + z + x.stride) % 2 ^ 64 ≡ part x (k + 1) + z
  unfolding part
  part_on z hz u' = rw h.stride (go (eqb x.down 0))
    where
      go : (t : Bool) → (pick t (x.from + k - 2048) (2559 - (x.from + k)) * x.weight + z + pick t x.weight (2 ^ 64 - x.weight)) % 2 ^ 64 ≡ pick t (x.from + (k + 1) - 2048) (2559 - (x.from + (k + 1))) * x.weight + z
      go true =
          let e : x.from + (k + 1) - 2048 ≡ x.from + k - 2048 + 1 = omega arith in
          let r : x.from + k - 2048 ≤ 511 = omega arith in
          let m = mul-le-mul_right x.weight r in
          let w = h.weight in
          rw e (omega arith)
      go false =
          let e : 2559 - (x.from + k) ≡ 2559 - (x.from + (k + 1)) + 1 = omega arith in
          let r : 2559 - (x.from + (k + 1)) ≤ 511 = omega arith in
          let m = mul-le-mul_right x.weight r in
          let w = h.weight in
          rw e (omega arith)

pub number_most : (c : Course) (i : ℕ) → Sound c → visible c i ≡ true → number c i < 262144
number_most c i s v =
    let r = visible_is c i v in
    let l = part_most c.long s.long i r.0 r.1 in
    let h = part_most c.short s.short (gone_at c i) r.2 r.3 in
    omega (arith, s.weights)

-- ---- the mark
mod_in : (x y : ℕ) → (x + y % 2 ^ 64) % 2 ^ 64 ≡ (x + y) % 2 ^ 64
mod_in x y = omega arith

mod_of : (x y : ℕ) → (x % 2 ^ 64 + y) % 2 ^ 64 ≡ (x + y) % 2 ^ 64
mod_of x y = omega arith

mod_then : (x y z : ℕ) → x % 2 ^ 64 ≡ y → (x + z) % 2 ^ 64 ≡ (y + z) % 2 ^ 64
mod_then x y z e = omega arith

mod_round : (x y : ℕ) → y ≤ x → y ≤ 2 ^ 64 → (x + (2 ^ 64 - y)) % 2 ^ 64 ≡ (x - y) % 2 ^ 64
mod_round x y h l = let e : x + (2 ^ 64 - y) ≡ x - y + 2 ^ 64 = omega arith in rw e (omega arith)

module _ (c : Course) (i : ℕ) (s : Sound c) (p : 0 < c.long.size) (v : visible c i ≡ true) (v' : visible c (i + 1) ≡ true) where
  abbrev room : ℕ
  room = 2 * c.long.size - 2 * c.short.size

  straight : carried_at c i < room → (mark c i + (paces_of c).one) % 2 ^ 64 ≡ mark c (i + 1)
  unfolding mark paces_of
  straight l =
      let r = visible_is c i v in
      let r' = visible_is c (i + 1) v' in
      let k = goes_straight c.long.size c.short.size c.half i p l in
      let b = part_most c.short s.short (gone_at c i) r.2 r.3 in
      let few = s.few in
      let w = s.short.weight in
      let z = (carried_at c i + 2 * c.short.size) * above + part c.short (gone_at c i) in
      let e : carried_at c i * above + number c i + (2 * c.short.size * above + c.long.stride) ≡ part c.long i + z + c.long.stride = omega arith in
      mod_in (carried_at c i * above + number c i) (2 * c.short.size * above + c.long.stride)
      ∙ ap (λ (t : ℕ). t % 2 ^ 64) e
      ∙ part_on c.long s.long i r.0 r.1 z (omega arith) (omega arith)
      ∙ rw (k.0, k.1) (omega arith)

  aslant : room ≤ carried_at c i → (mark c i + (paces_of c).both) % 2 ^ 64 ≡ mark c (i + 1)
  unfolding mark paces_of
  aslant l =
      let r = visible_is c i v in
      let r' = visible_is c (i + 1) v' in
      let k = goes_aslant c.long.size c.short.size c.half i p s.fewer l in
      let t = carried_less c.long.size c.short.size c.half i p in
      let b = part_most c.long s.long (i + 1) r'.0 r'.1 in
      let b' = part_most c.short s.short (gone_at c i) r.2 r.3 in
      let few = s.few in
      let w = s.long.weight in
      let w' = s.short.weight in
      let d = (carried_at c i - room) * above in
      let x = carried_at c i * above + number c i + (c.long.stride + c.short.stride) in
      let e : carried_at c i * above + number c i + (c.long.stride + c.short.stride + (2 ^ 64 - room * above)) ≡ x + (2 ^ 64 - room * above) = omega arith in
      let e' : x - room * above ≡ part c.long i + (d + part c.short (gone_at c i)) + c.long.stride + c.short.stride = omega arith in
      let f = part_on c.long s.long i r.0 r.1 (d + part c.short (gone_at c i)) (omega arith) (omega arith) in
      let e'' : part c.long (i + 1) + (d + part c.short (gone_at c i)) + c.short.stride ≡ part c.short (gone_at c i) + (d + part c.long (i + 1)) + c.short.stride = omega arith in
      let q = k.0 in
      let o = r'.3 in
      mod_in (carried_at c i * above + number c i) (c.long.stride + c.short.stride + (2 ^ 64 - room * above))
      ∙ ap (λ (t : ℕ). t % 2 ^ 64) e
      ∙ mod_round x (room * above) (omega arith) (omega arith)
      ∙ ap (λ (t : ℕ). t % 2 ^ 64) e'
      ∙ mod_then _ _ c.short.stride f
      ∙ ap (λ (t : ℕ). t % 2 ^ 64) e''
      ∙ part_on c.short s.short (gone_at c i) r.2 r.3 (d + part c.long (i + 1)) (omega arith) (omega arith)
      ∙ rw (k.0, k.1) (omega arith)

  step_on : stepped (paces_of c) (mark c i) ≡ mark c (i + 1)
  unfolding stepped mark paces_of
  step_on = go (ltb (carried_at c i) room) refl
    where
      small : number c i < 262144
      small = number_most c i s v

      go : (t : Bool) → ltb (carried_at c i) room ≡ t → stepped (paces_of c) (mark c i) ≡ mark c (i + 1)
      go true e = let l = ltb-true (carried_at c i) room e in let b = small in rw (lt-ltb (mark c i) (room * above) (omega arith)) (straight l)
      go false e = let l = ltb-false (carried_at c i) room e in let b = small in rw (le-ltb (mark c i) (room * above) (omega arith)) (aslant l)

-- ---- at the start
module _ (c : Course) (s : Sound c) (p : 0 < c.long.size) (v : visible c 0 ≡ true) where
  pub start_number : (1050624 ≤ c.place) × (c.place - 1050624 < 262144) × (c.place - 1050624 ≡ number c 0)
  start_number = let e = s.start p v in let b = number_most c 0 s v in (omega arith, omega arith, omega arith)

  pub mark_first : c.half * above + (c.place - 1050624) ≡ mark c 0
  unfolding mark
  mark_first = rw (carried_first c.long.size c.short.size c.half p s.half, start_number.2)

-- ---- the lower half of a mark is its pixel's number
pub mark_number : (c : Course) (i : ℕ) → Sound c → visible c i ≡ true → mark c i % above ≡ number c i
unfolding mark
mark_number c i s v = let b = number_most c i s v in let l : number c i < above = omega arith in digits_mod (carried_at c i) {m = above} l

-- ---- the marks of a span
module _ (c : Course) {first end : ℕ} (s : Sound c) (p : 0 < c.long.size) (w : Spans c first end) where
  pub marks_are : (i : ℕ) → first + i < end → marks (paces_of c) (mark c first) i ≡ mark c (first + i)
  unfolding marks
  marks_are zero l = rw (add-zero first)
  marks_are (suc i) l =
      let l' : first + i < end = omega arith in
      let e : first + suc i ≡ first + i + 1 = omega arith in
      rw (e, marks_are i l') (step_on c (first + i) s p (w.seen (first + i) (omega arith) l') (w.seen (first + i + 1) (omega arith) (omega arith)))

-- ---- the paces
module _ (c : Course) {wm wl : ℕ} (em : wm ≡ 2 * c.short.size) (el : wl ≡ 2 * c.long.size - 2 * c.short.size) where
  pub paces_are : wl * above ≤ 2 ^ 64
      → record { limit = wl * above; one = (wm * above + c.long.stride) % 2 ^ 64; both = ((c.long.stride + c.short.stride) % 2 ^ 64 + (2 ^ 64 - wl * above)) % 2 ^ 64 } ≡ paces_of c
  unfolding paces_of
  paces_are hl = rw (mod_of (c.long.stride + c.short.stride) (2 ^ 64 - wl * above), el, em)
