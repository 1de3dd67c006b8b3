-- What the tests on words ask, as plain conditions.
use Prim.Native.Nat.{ℕ, zero, suc, ◌≤◌, ◌<◌, ◌/◌, ◌%◌, ◌^◌}
use mathlib.Core.Bool.{Bool, true, false, not, ◌&&◌}
use mathlib.Core.Path.{◌≡◌, refl, sym}
use mathlib.Core.Logic.{◌⊎◌, inl, inr, ⊎_elim, ◌↔◌}
use native.Mathlib.Omega.{arith}
use lib.Dec.{eqb, leb}
use borrow.Author.Tests.{eq-eqb, eqb-true, leb-true}
use Rattle.definition.specs.Words.{none, bit, code, first_code, second_code, sets_mode, not_built, is_code, order, item, decode, jumps, paired, is_paired, has_second}
use Rattle.definition.specs.declared.Order.{Order}
use Rattle.definition.specs.declared.Order.TheVariants.{StatusA}
use Rattle.definition.specs.declared.Item.{Item}
use Rattle.definition.specs.declared.Instruction.{Instruction}
use Rattle.definition.specs.declared.Instruction.TheVariants.{Does}
use Rattle.definition.proofs.Exactly.{apart}
use Rattle.definition.proofs.Plain.{◌so◌, ◌and◌, ◌or◌, is_most, not_most, is_equal, not_equal, not_true, both_true, failing}
use Rattle.definition.proofs.StepLaws.{pick_keeps}
use Rattle.demands.specs.Conditions.{On, Off, HasCell, NoCell, NotBuilt, NoMode, BadCode, FirstRefused, Pair, TwoWords, SecondRefused}

-- ---- a bit that is not set is clear
pub is_off : (n : ℕ) → (not (eqb (n % 2) 1) ≡ true) ↔ (n % 2 ≡ 0)
is_off n = not_true so not_equal so (λ h. go (n % 2) (omega arith) h, λ e q. omega arith)
  where
    go : (r : ℕ) → r < 2 → (r ≡ 1 → ⊥) → r ≡ 0
    go zero l h = refl
    go (suc zero) l h = absurd (h refl)
    go (suc (suc r)) l h = absurd (omega arith)

pub not_built_is : (w : ℕ) → (bit 15 w && not_built (code w) ≡ true) ↔ NotBuilt w
unfolding not_built
not_built_is w = both_true so is_equal and (both_true so is_most and is_most)

pub no_mode : (mode w : ℕ) → (not (bit 15 w) && eqb mode none ≡ true) ↔ NoMode mode w
no_mode mode w = both_true so is_off (w / 2 ^ 15) and is_equal

both_false : {s t : Bool} → (s && t ≡ false) ↔ ((s ≡ false) ⊎ (t ≡ false))
both_false {s = true} {t = t} = (λ e. inr e, ⊎_elim (λ u. absurd (apart u)) (λ u. u))
both_false {s = false} {t = t} = (λ e. inl e, λ w. refl)

no_cell : (c : ℕ) → (is_code c ≡ false) ↔ NoCell c
unfolding is_code
no_cell c = both_false so not_most or not_most

pub bad_code : (mode w : ℕ) → (not (bit 15 w) && eqb mode 0 && not (is_code (first_code w) && is_code (second_code w)) ≡ true) ↔ BadCode mode w
bad_code mode w =
    both_true so (both_true so is_off (w / 2 ^ 15) and is_equal) and (not_true so both_false so no_cell (first_code w) or no_cell (second_code w))
    so (λ q. (q.0.0, (q.0.1, q.1)), λ q. ((q.0, q.1.0), q.1.1))

-- a code has a cell or it has none
pub one_cell : (c : ℕ) → (NoCell c → ⊥) ↔ HasCell c
unfolding is_code
one_cell c = (λ h. go (is_code c) refl h, λ k. ⊎_elim (λ l. let a = k.0 in omega arith) (λ l. let b = k.1 in omega arith))
  where
    go : (t : Bool) → is_code c ≡ t → (NoCell c → ⊥) → HasCell c
    go true e h = (both_true so is_most and is_most).0 e
    go false e h = absurd (h ((no_cell c).0 e))

-- ---- words that no test of a first word refuses
-- a data word in a mode from 1 on
pub data_allowed : (mode w : ℕ) → Off 15 w → 1 ≤ mode → mode ≤ 6 → FirstRefused mode w → ⊥
data_allowed mode w off some few = ⊎_elim (λ q. let on = q.0 in omega arith) (⊎_elim (λ q. let e = q.1 in omega arith) (λ q. let e = q.1.0 in omega arith))

-- a data word of mode 0 exactly when both its codes have a cell
pub codes_allowed : (mode w : ℕ) → Off 15 w → mode ≡ 0 → (FirstRefused mode w → ⊥) ↔ (HasCell (first_code w) × HasCell (second_code w))
codes_allowed mode w off z = (
  λ h. ((one_cell (first_code w)).0 (λ n. h (inr (inr (off, (z, inl n))))), (one_cell (second_code w)).0 (λ n. h (inr (inr (off, (z, inr n)))))),
  λ k. ⊎_elim (λ q. let on = q.0 in omega arith) (⊎_elim (λ q. let e = q.1 in omega arith) (λ q. ⊎_elim ((one_cell (first_code w)).1 k.0) ((one_cell (second_code w)).1 k.1) q.1.1)),
)

-- a status A
pub status_a_allowed : (mode w : ℕ) → On 15 w → code w ≡ 14 → FirstRefused mode w → ⊥
status_a_allowed mode w on c = ⊎_elim (λ q. let k = q.1.1 in omega arith) (⊎_elim (λ q. let o = q.0 in omega arith) (λ q. let o = q.0 in omega arith))

-- ---- a second word that is not refused has bit 15 clear
pub second_allowed : (v : ℕ) → (SecondRefused v → ⊥) ↔ Off 15 v
second_allowed v = (λ h. (is_off (v / 2 ^ 15)).0 (not_true.1 (failing.1 (λ e. h (is_equal.0 e)))), λ o q. omega arith)

-- ---- which words have a second: by the code, and by the mode
neither : {A : Type 0} → (A → ⊥) → (◌≡◌ {A = Bool} false true) ↔ A
neither h = (λ e. absurd (apart (sym e)), λ a. absurd (h a))

jumping : (w : ℕ) → (jumps (order w) ≡ true) ↔ (code w ≡ 12)
unfolding order sets_mode
jumping w =
    pick_keeps P (sets_mode (code w)) (λ e. neither (not_twelve e))
    λ a. pick_keeps P (eqb (code w) 12) (λ e. (λ h. is_equal.0 e, λ h. refl))
    λ b. let n = not_equal.0 b in pick_keeps P (eqb (code w) 13) (λ e. neither n)
    λ c. pick_keeps P (eqb (code w) 14) (λ e. neither n)
    λ d. pick_keeps P (bit 10 w) (λ e. neither n) (λ e. neither n)
  where
    P : Order → Type 0
    P o = (jumps o ≡ true) ↔ (code w ≡ 12)

    not_twelve : leb (code w) 6 ≡ true → code w ≡ 12 → ⊥
    not_twelve e q = let l = leb-true (code w) 6 e in omega arith

pairing : (mode w : ℕ) → (paired (item mode w) ≡ true) ↔ ((mode ≡ 2) ⊎ (mode ≡ 3))
unfolding item
pairing mode w =
    pick_keeps P (eqb mode 0) (λ e. let z = eqb-true mode 0 e in neither (⊎_elim (λ q. omega arith) (λ q. omega arith)))
    λ o. pick_keeps P (eqb mode 1) (λ e. let one = eqb-true mode 1 e in neither (⊎_elim (λ q. omega arith) (λ q. omega arith)))
    λ a. pick_keeps P (eqb mode 2) (λ e. (λ h. inl (is_equal.0 e), λ h. refl))
    λ b. pick_keeps P (eqb mode 3) (λ e. (λ h. inr (is_equal.0 e), λ h. refl))
    λ c. let n = ⊎_elim (not_equal.0 b) (not_equal.0 c) in pick_keeps P (eqb mode 4) (λ e. neither n)
    λ d. pick_keeps P (eqb mode 5) (λ e. neither n) (λ e. neither n)
  where
    P : Item → Type 0
    P it = (paired it ≡ true) ↔ ((mode ≡ 2) ⊎ (mode ≡ 3))

pub is_pair : (mode w : ℕ) → (is_paired (decode mode w) ≡ true) ↔ Pair mode w
unfolding decode
is_pair mode w =
    pick_keeps P (bit 15 w) (λ e. let on = eqb-true (w / 2 ^ 15 % 2) 1 e in neither (λ q. let off = q.0 in omega arith))
    (λ e. pairing mode w so (λ h. ((is_off (w / 2 ^ 15)).0 (not_true.1 e), h), λ q. q.1))
  where
    P : Instruction → Type 0
    P i = (is_paired i ≡ true) ↔ Pair mode w

pub has_second_is : (mode w : ℕ) → (has_second (decode mode w) ≡ true) ↔ TwoWords mode w
unfolding decode
has_second_is mode w =
    pick_keeps P (bit 15 w) (λ e. let on = eqb-true (w / 2 ^ 15 % 2) 1 e in jumping w so (λ h. inl (on, h), ⊎_elim (λ q. q.1) (λ q. absurd (let off = q.0 in omega arith))))
    (λ e. let off = (is_off (w / 2 ^ 15)).0 (not_true.1 e) in pairing mode w so (λ h. inr (off, h), ⊎_elim (λ q. absurd (let on = q.0 in omega arith)) (λ q. q.1)))
  where
    P : Instruction → Type 0
    P i = (has_second i ≡ true) ↔ TwoWords mode w

-- ---- a status A
pub is_status_a : (mode w : ℕ) → On 15 w → code w ≡ 14 → decode mode w ≡ Does (StatusA (record { loads = bit 9 w; latch = bit 8 w; stops = bit 10 w }))
unfolding decode order sets_mode
is_status_a mode w on e = rw (eq-eqb _ _ on, e)
