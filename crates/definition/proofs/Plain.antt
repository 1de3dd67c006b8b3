-- From the tests of the definition to plain conditions: equivalences, put together.
use Prim.Native.Nat.{ℕ, ◌<◌, ◌≤◌}
use mathlib.Core.Bool.{Bool, true, false, not, ◌&&◌, ◌||◌}
use mathlib.Core.Path.{◌≡◌, refl, sym}
use mathlib.Core.Logic.{◌⊎◌, inl, inr, ⊎_elim, ◌↔◌}
use lib.Dec.{eqb, ltb, leb}
use lib.IntN.{ℤ}
use lib.Signed.{le_z, lt_z, ◌≤ℤ◌, ◌<ℤ◌}
use borrow.Author.Tests.{lt-ltb, le-ltb, le-leb, lt-leb, eq-eqb, ne_eqb, ltb-true, ltb-false, eqb-true, eqb-false, leb-true, leb-false}
use Rattle.whole.specs.Parts.{le_yes, le_goal, lt_yes, lt_goal, most_fact, most_goal, less_fact, less_goal}
use Rattle.definition.proofs.Exactly.{apart}

infixr 5 ◌and◌
infixr 5 ◌nor◌
infixr 4 ◌or◌
infixl 3 ◌so◌
pub ◌so◌ : {A B C : Type 0} → A ↔ B → B ↔ C → A ↔ C
p so q = (λ a. q.0 (p.0 a), λ c. p.1 (q.1 c))

pub ◌and◌ : {A A' B B' : Type 0} → A ↔ A' → B ↔ B' → (A × B) ↔ (A' × B')
p and q = (λ w. (p.0 w.0, q.0 w.1), λ w. (p.1 w.0, q.1 w.1))

pub ◌or◌ : {A A' B B' : Type 0} → A ↔ A' → B ↔ B' → (A ⊎ B) ↔ (A' ⊎ B')
p or q = (λ w. ⊎_elim (λ a. inl (p.0 a)) (λ b. inr (q.0 b)) w, λ w. ⊎_elim (λ a. inl (p.1 a)) (λ b. inr (q.1 b)) w)

pub itself : {A : Type 0} → A ↔ A
itself = (λ a. a, λ a. a)

pub back : {A B : Type 0} → A ↔ B → B ↔ A
back p = (p.1, p.0)

-- ---- a test that holds, and one that does not
pub is_less : {a b : ℕ} → (ltb a b ≡ true) ↔ (a < b)
is_less = (λ e. ltb-true _ _ e, λ h. lt-ltb _ _ h)

pub not_less : {a b : ℕ} → (ltb a b ≡ false) ↔ (b ≤ a)
not_less = (λ e. ltb-false _ _ e, λ h. le-ltb _ _ h)

pub is_most : {a b : ℕ} → (leb a b ≡ true) ↔ (a ≤ b)
is_most = (λ e. leb-true _ _ e, λ h. le-leb _ _ h)

pub not_most : {a b : ℕ} → (leb a b ≡ false) ↔ (b < a)
not_most = (λ e. leb-false _ _ e, λ h. lt-leb _ _ h)

pub is_equal : {a b : ℕ} → (eqb a b ≡ true) ↔ (a ≡ b)
is_equal = (λ e. eqb-true _ _ e, λ h. eq-eqb _ _ h)

pub not_equal : {a b : ℕ} → (eqb a b ≡ false) ↔ (a ≡ b → ⊥)
not_equal = (λ e. eqb-false _ _ e, λ h. ne_eqb _ _ h)

pub is_most_z : {x y : ℤ} → (le_z x y ≡ true) ↔ (x ≤ℤ y)
is_most_z {x} {y} = (λ e. most_goal x y (le_yes x y e), λ h. le_goal x y (most_fact x y h))

pub is_less_z : {x y : ℤ} → (lt_z x y ≡ true) ↔ (x <ℤ y)
is_less_z {x} {y} = (λ e. less_goal x y (lt_yes x y e), λ h. lt_goal x y (less_fact x y h))

-- ---- the words between tests
pub not_true : {t : Bool} → (not t ≡ true) ↔ (t ≡ false)
not_true {t = true} = (λ e. sym e, λ e. sym e)
not_true {t = false} = (λ e. refl, λ e. refl)

pub not_false : {t : Bool} → (not t ≡ false) ↔ (t ≡ true)
not_false {t = true} = (λ e. refl, λ e. refl)
not_false {t = false} = (λ e. sym e, λ e. sym e)

pub both_true : {s t : Bool} → (s && t ≡ true) ↔ ((s ≡ true) × (t ≡ true))
both_true {s = true} {t = t} = (λ e. (refl, e), λ w. w.1)
both_true {s = false} {t = t} = (λ e. absurd (apart (sym e)), λ w. absurd (apart (sym w.0)))

pub either_true : {s t : Bool} → (s || t ≡ true) ↔ ((s ≡ true) ⊎ (t ≡ true))
either_true {s = true} {t = t} = (λ e. inl refl, λ w. refl)
either_true {s = false} {t = t} = (λ e. inr e, λ w. ⊎_elim (λ u. absurd (apart (sym u))) (λ u. u) w)

pub either_false : {s t : Bool} → (s || t ≡ false) ↔ ((s ≡ false) × (t ≡ false))
either_false {s = true} {t = t} = (λ e. absurd (apart e), λ w. absurd (apart w.0))
either_false {s = false} {t = t} = (λ e. (refl, e), λ w. w.1)

-- a test that fails is one that does not hold
pub failing : {t : Bool} → (t ≡ false) ↔ (t ≡ true → ⊥)
failing {t = true} = (λ e. absurd (apart e), λ h. absurd (h refl))
failing {t = false} = (λ e q. apart (sym q), λ h. refl)

pub never : {A B : Type 0} → A ↔ B → (A → ⊥) ↔ (B → ⊥)
never p = (λ h b. h (p.1 b), λ h a. h (p.0 a))

pub implies : {A A' B B' : Type 0} → A ↔ A' → B ↔ B' → (A → B) ↔ (A' → B')
implies p q = (λ h a. q.0 (h (p.1 a)), λ h a. q.1 (h (p.0 a)))

pub unless : {s t : Bool} → (s && t ≡ false) ↔ (s ≡ true → t ≡ false)
unless {s = true} {t = t} = (λ e q. e, λ h. h refl)
unless {s = false} {t = t} = (λ e q. absurd (apart (sym q)), λ h. refl)

pub over : {A B C : Type 0} → (A × (B ⊎ C)) ↔ ((A × B) ⊎ (A × C))
over = (λ w. ⊎_elim (λ b. inl (w.0, b)) (λ c. inr (w.0, c)) w.1, ⊎_elim (λ w. (w.0, inl w.1)) (λ w. (w.0, inr w.1)))

-- none of several: a test that fails, and those after it; and the last of them
pub ◌nor◌ : {t : Bool} {A B R : Type 0} → (t ≡ true) ↔ A → R ↔ (B → ⊥) → ((t ≡ false) × R) ↔ ((A ⊎ B) → ⊥)
p nor q = (λ w. ⊎_elim ((never p).0 (failing.0 w.0)) (q.0 w.1), λ h. (failing.1 ((never p).1 (λ a. h (inl a))), q.1 (λ b. h (inr b))))

pub last : {t : Bool} {A : Type 0} → (t ≡ true) ↔ A → ((t ≡ false) × Unit {0}) ↔ (A → ⊥)
last p = (λ w. (never p).0 (failing.0 w.0), λ h. (failing.1 ((never p).1 h), tt))
