-- Whole numbers for `omega`, which knows naturals: a whole number z is `up z - dn z`, two naturals of which one is 0, so that a fact on whole numbers is a
-- linear fact on naturals. The rule set `whole` turns equations, orders, tests, ranges of a width and casts; of the operations that occur, the law of
-- each (`add`, `sub`, `mul`, `floor`, `abs` or `size`) is listed beside it, as in `omega (whole, add x y)`.
use Rattle.std.specs.Prelude.{◌≡◌, refl, Bool, true, false, cond, ℕ, zero, suc, ◌+◌, ◌*◌, ◌-◌, ◌≤◌, ◌<◌, ◌^◌, T, ltb, ℤ, pos, negsuc, neg_ℤ, nat_abs, ◌+ℤ◌, ◌-ℤ◌, ◌*ℤ◌, ◌≤ℤ◌, ◌<ℤ◌}
use Rattle.std.proofs.Common.{sym, ap, subst, arith, ltb-true, ltb-false, leb-true, leb-false, lt-ltb, le-ltb, le-leb, div-add-mod', mod-lt, mul-le-mul_left}
use Rattle.std.proofs.lemmas.Bool.{lt-leb}
use Rattle.std.proofs.Math.Nat.{lt_of_mul-lt-mul_left}
use Rattle.std.proofs.Math.IntN.{sub_ℕ}
use Rattle.std.specs.Int.Signed.{lt_z, le_z, non_neg, shr_z}
use Rattle.std.specs.Int.{Width}
use mir.Val.{SFits, hbits}

abbrev pub up : ℤ → ℕ
up (pos n) = n
up (negsuc n) = 0

abbrev pub dn : ℤ → ℕ
dn (pos n) = 0
dn (negsuc n) = suc n

-- ---- the operations
pub sub_parts : (a b : ℕ) → up (sub_ℕ a b) + b ≡ dn (sub_ℕ a b) + a
sub_parts a b = go (ltb a b) refl
  where
    go : (t : Bool) → ltb a b ≡ t → up (cond t (negsuc (b - suc a)) (pos (a - b))) + b ≡ dn (cond t (negsuc (b - suc a)) (pos (a - b))) + a
    go true e = omega (arith, ltb-true)
    go false e = omega (arith, ltb-false)

pub add : (x y : ℤ) → up (x +ℤ y) + (dn x + dn y) ≡ dn (x +ℤ y) + (up x + up y)
add (pos a) (pos b) = omega arith
add (pos a) (negsuc b) = omega (arith, sub_parts a (suc b))
add (negsuc a) (pos b) = omega (arith, sub_parts b (suc a))
add (negsuc a) (negsuc b) = omega arith

pub neg : (x : ℤ) → (up (neg_ℤ x) ≡ dn x) × (dn (neg_ℤ x) ≡ up x)
neg (pos zero) = omega arith
neg (pos (suc n)) = omega arith
neg (negsuc n) = omega arith

pub sub : (x y : ℤ) → up (x -ℤ y) + (dn x + up y) ≡ dn (x -ℤ y) + (up x + dn y)
sub x y = omega (arith, add x (neg_ℤ y), neg y)

-- ---- equations and orders, each way
pub eq_goal : (x y : ℤ) → up x + dn y ≡ up y + dn x → x ≡ y
eq_goal (pos a) (pos b) e = ap pos (omega arith)
eq_goal (pos a) (negsuc b) e = absurd (omega arith)
eq_goal (negsuc a) (pos b) e = absurd (omega arith)
eq_goal (negsuc a) (negsuc b) e = ap negsuc (omega arith)

pub eq_fact : (x y : ℤ) → x ≡ y → up x + dn y ≡ up y + dn x
eq_fact x y e = rw e (omega arith)

pub lt_yes : (x y : ℤ) → lt_z x y ≡ true → up x + dn y < up y + dn x
lt_yes (pos a) (pos b) e = omega (arith, ltb-true)
lt_yes (pos a) (negsuc b) e = let z : ◌≡◌ {A = ℕ} 0 1 = cc in omega arith
lt_yes (negsuc a) (pos b) e = omega arith
lt_yes (negsuc a) (negsuc b) e = omega (arith, ltb-true)

pub lt_no : (x y : ℤ) → lt_z x y ≡ false → up y + dn x ≤ up x + dn y
lt_no (pos a) (pos b) e = omega (arith, ltb-false)
lt_no (pos a) (negsuc b) e = omega arith
lt_no (negsuc a) (pos b) e = let z : ◌≡◌ {A = ℕ} 0 1 = cc in omega arith
lt_no (negsuc a) (negsuc b) e = omega (arith, ltb-false)

pub le_yes : (x y : ℤ) → le_z x y ≡ true → up x + dn y ≤ up y + dn x
le_yes (pos a) (pos b) e = omega (arith, leb-true)
le_yes (pos a) (negsuc b) e = let z : ◌≡◌ {A = ℕ} 0 1 = cc in omega arith
le_yes (negsuc a) (pos b) e = omega arith
le_yes (negsuc a) (negsuc b) e = omega (arith, leb-true)

pub le_no : (x y : ℤ) → le_z x y ≡ false → up y + dn x < up x + dn y
le_no (pos a) (pos b) e = omega (arith, leb-false)
le_no (pos a) (negsuc b) e = omega arith
le_no (negsuc a) (pos b) e = let z : ◌≡◌ {A = ℕ} 0 1 = cc in omega arith
le_no (negsuc a) (negsuc b) e = omega (arith, leb-false)

-- the value of a test from the fact
pub lt_goal : (x y : ℤ) → up x + dn y < up y + dn x → lt_z x y ≡ true
lt_goal (pos a) (pos b) h = lt-ltb a b (omega arith)
lt_goal (pos a) (negsuc b) h = absurd (omega arith)
lt_goal (negsuc a) (pos b) h = refl
lt_goal (negsuc a) (negsuc b) h = lt-ltb b a (omega arith)

pub nlt_goal : (x y : ℤ) → up y + dn x ≤ up x + dn y → lt_z x y ≡ false
nlt_goal (pos a) (pos b) h = le-ltb a b (omega arith)
nlt_goal (pos a) (negsuc b) h = refl
nlt_goal (negsuc a) (pos b) h = absurd (omega arith)
nlt_goal (negsuc a) (negsuc b) h = le-ltb b a (omega arith)

pub le_goal : (x y : ℤ) → up x + dn y ≤ up y + dn x → le_z x y ≡ true
le_goal (pos a) (pos b) h = le-leb a b (omega arith)
le_goal (pos a) (negsuc b) h = absurd (omega arith)
le_goal (negsuc a) (pos b) h = refl
le_goal (negsuc a) (negsuc b) h = le-leb b a (omega arith)

pub nle_goal : (x y : ℤ) → up y + dn x < up x + dn y → le_z x y ≡ false
nle_goal (pos a) (pos b) h = lt-leb a b (omega arith)
nle_goal (pos a) (negsuc b) h = refl
nle_goal (negsuc a) (pos b) h = absurd (omega arith)
nle_goal (negsuc a) (negsuc b) h = lt-leb b a (omega arith)

-- the library's orders
istrue : (t : Bool) → T t → t ≡ true
istrue true h = refl
istrue false h = absurd h

pub most_fact : (x y : ℤ) → x ≤ℤ y → up x + dn y ≤ up y + dn x
most_fact x y h = le_yes x y (istrue (le_z x y) h.le)

pub less_fact : (x y : ℤ) → x <ℤ y → up x + dn y < up y + dn x
less_fact x y h = lt_yes x y (istrue (lt_z x y) h.lt)

pub most_goal : (x y : ℤ) → up x + dn y ≤ up y + dn x → x ≤ℤ y
most_goal x y h = record { le = subst T (sym (le_goal x y h)) tt }

pub less_goal : (x y : ℤ) → up x + dn y < up y + dn x → x <ℤ y
less_goal x y h = record { lt = subst T (sym (lt_goal x y h)) tt }

-- ---- the range of a width
pub fit_rule : (w : Width) (z : ℤ) → (up z - dn z) + (dn z - up z - 1) < 2 ^ hbits w → SFits w z
fit_rule w (pos n) h = record { sfits = omega arith }
fit_rule w (negsuc n) h = record { sfits = omega arith }

-- one statement that says both, since `omega` applies one rule to a hypothesis, and a rule gives one statement
pub fit_both : (w : Width) (z : ℤ) → SFits w z → 2 ^ hbits w * up z + (2 ^ hbits w - 1) * dn z ≤ 2 ^ hbits w * (2 ^ hbits w - 1)
fit_both w (pos n) f = omega (arith, mul-le-mul_left {m = n} {n = 2 ^ hbits w - 1} (2 ^ hbits w) (omega arith))
fit_both w (negsuc n) f = omega (arith, mul-le-mul_left {m = suc n} {n = 2 ^ hbits w} (2 ^ hbits w - 1) (omega arith))

-- ---- casts: a number that is not below zero, and a size
pub nonneg_goal : (z : ℤ) → dn z ≤ up z → T (non_neg z)
nonneg_goal (pos n) h = tt
nonneg_goal (negsuc n) h = absurd (omega arith)

pub nonneg_fact : (z : ℤ) → T (non_neg z) → dn z ≤ up z
nonneg_fact (pos n) h = omega arith
nonneg_fact (negsuc n) h = absurd h

pub abs : (z : ℤ) → nat_abs z ≡ (up z - dn z) + (dn z - up z)
abs (pos n) = omega arith
abs (negsuc n) = omega arith

-- the same without a case split, for a size that is known: one of the two parts is 0
pub size : (z : ℤ) → nat_abs z ≡ up z + dn z
size (pos n) = omega arith
size (negsuc n) = omega arith

-- ---- products and floor division
pub mul : (x y : ℤ) → up (x *ℤ y) + (up x * dn y + dn x * up y) ≡ dn (x *ℤ y) + (up x * up y + dn x * dn y)
mul (pos a) (pos b) = omega arith
mul (pos a) (negsuc b) = omega (arith, neg (pos (a * suc b)))
mul (negsuc a) (pos b) = omega (arith, neg (pos (suc a * b)))
mul (negsuc a) (negsuc b) = omega arith

-- q = floor (x / m): m q ≤ x < m q + m
pub floor : (x : ℤ) (m : ℕ) → 0 < m → (m * up (shr_z x m) + dn x ≤ up x + m * dn (shr_z x m)) × (up x + m * dn (shr_z x m) < m * up (shr_z x m) + dn x + m)
floor (pos n) m h = omega (arith, div-add-mod' n m, mod-lt n h)
floor (negsuc n) m h = omega (arith, div-add-mod' n m, mod-lt n h)

pub ruleset whole = (arith, eq_goal, eq_fact, lt_yes, lt_no, le_yes, le_no, lt_goal, nlt_goal, le_goal, nle_goal, most_fact, less_fact, most_goal, less_goal, fit_rule, fit_both, nonneg_goal, nonneg_fact)

-- nothing else lies so
pub floor_is : (x q : ℤ) (m : ℕ) → 0 < m → m * up q + dn x ≤ up x + m * dn q → up x + m * dn q < m * up q + dn x + m → shr_z x m ≡ q
floor_is x q m p h k =
    let f = floor x m p in
    let a : up q + dn (shr_z x m) < suc (up (shr_z x m) + dn q) = lt_of_mul-lt-mul_left m (omega arith) in
    let b : up (shr_z x m) + dn q < suc (up q + dn (shr_z x m)) = lt_of_mul-lt-mul_left m (omega arith) in
    omega whole
