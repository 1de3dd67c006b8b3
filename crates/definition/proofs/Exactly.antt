-- Given exactly when: a list of tests answers a number exactly when a test of that number holds and none before it does.
use Prim.Native.Nat.{ℕ, ◌<◌}
use mathlib.Core.Bool.{Bool, true, false, ◌||◌}
use mathlib.Core.List.{List, [], ◌∷◌, ◌++◌}
use mathlib.Core.Path.{◌≡◌, refl, sym, ap, ◌∙◌}
use mathlib.Core.Logic.{◌⊎◌, inl, inr, ⊎_elim, ◌↔◌}
use native.Mathlib.Omega.{arith}
use native.Mathlib.Decide.{ℕ_discrete}
use lib.Dec.{eqb}
use borrow.Author.Tests.{eqb-true, eqb-false}
use Rattle.definition.specs.Choice.{pick, Test, first_of, only_if}

-- a test of this number is in the list
abbrev pub names : ℕ → List Test → Bool
names n [] = false
names n (t ∷ ts) = eqb t.number n || names n ts

-- a test of this number holds, and none before it: on a list of written numbers this computes to the plain condition
abbrev pub Answers : ℕ → List Test → Type 0
Answers n [] = ⊥
Answers n (t ∷ ts) =
    pick (eqb t.number n)
    (pick (names n ts) ((t.holds ≡ true) ⊎ ((t.holds ≡ false) × Answers n ts)) (t.holds ≡ true))
    ((t.holds ≡ false) × Answers n ts)

-- no test holds
abbrev pub None : List Test → Type 0
None [] = Unit {0}
None (t ∷ ts) = (t.holds ≡ false) × None ts

pub apart : ◌≡◌ {A = Bool} true false → ⊥
apart e = let z : ◌≡◌ {A = ℕ} 0 1 = cc in omega arith

absent : (n : ℕ) (ts : List Test) → 0 < n → names n ts ≡ false → first_of ts ≡ n → ⊥
unfolding first_of
absent n [] p e q = omega arith
absent n (t ∷ ts) p e q = go t.holds (eqb t.number n) refl e q (absent n ts p)
  where
    go : (h k : Bool) → eqb t.number n ≡ k → k || names n ts ≡ false → pick h t.number (first_of ts) ≡ n
        → (names n ts ≡ false → first_of ts ≡ n → ⊥) → ⊥
    go h true ek e q g = apart e
    go true false ek e q g = eqb-false _ _ ek q
    go false false ek e q g = g e q

one : (h : Bool) (a r n : ℕ) (G : Type 0) (k m : Bool) → eqb a n ≡ k → (m ≡ false → r ≡ n → ⊥) → ((r ≡ n) ↔ G)
    → (pick h a r ≡ n) ↔ pick k (pick m ((h ≡ true) ⊎ ((h ≡ false) × G)) (h ≡ true)) ((h ≡ false) × G)
one true a r n G true true e z g = (λ q. inl refl, λ w. eqb-true _ _ e)
one true a r n G true false e z g = (λ q. refl, λ w. eqb-true _ _ e)
one true a r n G false m e z g = (λ q. absurd (eqb-false _ _ e q), λ w. absurd (apart w.0))
one false a r n G true true e z g = (λ q. inr (refl, g.0 q), λ w. ⊎_elim (λ u. absurd (apart (sym u))) (λ u. g.1 u.1) w)
one false a r n G true false e z g = (λ q. absurd (z refl q), λ w. absurd (apart (sym w)))
one false a r n G false m e z g = (λ q. (refl, g.0 q), λ w. g.1 w.1)

pub exactly : (n : ℕ) (ts : List Test) → 0 < n → (first_of ts ≡ n) ↔ Answers n ts
unfolding first_of
exactly n [] p = (λ q. omega arith, λ w. absurd w)
exactly n (t ∷ ts) p = one t.holds t.number (first_of ts) n (Answers n ts) (eqb t.number n) (names n ts) refl (absent n ts p) (exactly n ts p)

-- 0 exactly when no test holds, where no test has the number 0
pub none_holds : (ts : List Test) → names 0 ts ≡ false → (first_of ts ≡ 0) ↔ None ts
unfolding first_of
none_holds [] e = (λ q. tt, λ w. refl)
none_holds (t ∷ ts) e = go t.holds (eqb t.number 0) refl e (λ e. none_holds ts e)
  where
    go : (h k : Bool) → eqb t.number 0 ≡ k → k || names 0 ts ≡ false → (names 0 ts ≡ false → (first_of ts ≡ 0) ↔ None ts)
        → (pick h t.number (first_of ts) ≡ 0) ↔ ((h ≡ false) × None ts)
    go h true ek e g = absurd (apart e)
    go true false ek e g = (λ q. absurd (eqb-false _ _ ek q), λ w. absurd (apart w.0))
    go false false ek e g = (λ q. (refl, (g e).0 q), λ w. (g e).1 w.1)

-- every test of this number fails: what an answer of 0 says of one number, wherever it stands
abbrev pub Fails : ℕ → List Test → Type 0
Fails n [] = Unit {0}
Fails n (t ∷ ts) = pick (eqb t.number n) (pick (names n ts) ((t.holds ≡ false) × Fails n ts) (t.holds ≡ false)) (Fails n ts)

pub fails : (n : ℕ) (ts : List Test) → names 0 ts ≡ false → first_of ts ≡ 0 → Fails n ts
fails n ts e z = go ts ((none_holds ts e).0 z)
  where
    one_fails : (t : Test) (k m : Bool) (G : Type 0) → t.holds ≡ false → G → pick k (pick m ((t.holds ≡ false) × G) (t.holds ≡ false)) G
    one_fails t true true G h g = (h, g)
    one_fails t true false G h g = h
    one_fails t false m G h g = g

    go : (ts : List Test) → None ts → Fails n ts
    go [] h = tt
    go (t ∷ ts) h = one_fails t (eqb t.number n) (names n ts) (Fails n ts) h.0 (go ts h.1)

-- ---- a list before another: where it answers 0 the other one answers, else it answers itself
pub passes : (ts us : List Test) → names 0 ts ≡ false → first_of ts ≡ 0 → first_of (ts ++ us) ≡ first_of us
unfolding first_of
passes ts us e z = go ts ((none_holds ts e).0 z)
  where
    go : (ts : List Test) → None ts → first_of (ts ++ us) ≡ first_of us
    go [] h = refl
    go (t ∷ ts) h = rw h.0 (go ts h.1)

pub stops : (ts us : List Test) → (first_of ts ≡ 0 → ⊥) → first_of (ts ++ us) ≡ first_of ts
unfolding first_of
stops [] us h = absurd (h refl)
stops (t ∷ ts) us h = go t.holds h (stops ts us)
  where
    go : (b : Bool) → (pick b t.number (first_of ts) ≡ 0 → ⊥) → ((first_of ts ≡ 0 → ⊥) → first_of (ts ++ us) ≡ first_of ts)
        → pick b t.number (first_of (ts ++ us)) ≡ pick b t.number (first_of ts)
    go true h g = refl
    go false h g = g h

-- ---- groups of tests: which of two, one after the other, answers n
module _ (n : ℕ) (ts us : List Test) (e : names 0 ts ≡ false) where
  -- the first does, or it passes and the second does
  pub in_either : 0 < n → (first_of (ts ++ us) ≡ n) ↔ ((first_of ts ≡ n) ⊎ ((first_of ts ≡ 0) × (first_of us ≡ n)))
  in_either p = go (ℕ_discrete (first_of ts) 0)
    where
      go : Dec (first_of ts ≡ 0) → (first_of (ts ++ us) ≡ n) ↔ ((first_of ts ≡ n) ⊎ ((first_of ts ≡ 0) × (first_of us ≡ n)))
      go (yes z) = let q = passes ts us e z in (λ a. inr (z, sym q ∙ a), ⊎_elim (λ a. absurd (omega arith)) (λ w. q ∙ w.1))
      go (no h) = let q = stops ts us h in (λ a. inl (sym q ∙ a), ⊎_elim (λ a. q ∙ a) (λ w. absurd (h w.0)))

  -- where n is no number of the first, the second does
  pub in_later : names n ts ≡ false → (first_of (ts ++ us) ≡ n) ↔ ((first_of ts ≡ 0) × (first_of us ≡ n))
  in_later k = go (ℕ_discrete (first_of ts) 0)
    where
      not_first : (first_of ts ≡ 0 → ⊥) → first_of ts ≡ n → ⊥
      not_first h q = absent n ts (some n (λ z. h (q ∙ z))) k q
        where
          some : (n : ℕ) → (n ≡ 0 → ⊥) → 0 < n
          some n h = omega arith

      go : Dec (first_of ts ≡ 0) → (first_of (ts ++ us) ≡ n) ↔ ((first_of ts ≡ 0) × (first_of us ≡ n))
      go (yes z) = let q = passes ts us e z in (λ a. (z, sym q ∙ a), λ w. q ∙ w.1)
      go (no h) = let q = stops ts us h in (λ a. absurd (not_first h (sym q ∙ a)), λ w. absurd (h w.0))

  -- where it is no number of the second, the first does
  pub in_first : 0 < n → names n us ≡ false → (first_of (ts ++ us) ≡ n) ↔ (first_of ts ≡ n)
  in_first p k = (λ a. ⊎_elim (λ q. q) (λ w. absurd (absent n us p k w.1)) ((in_either p).0 a), λ q. (in_either p).1 (inl q))

-- a group that is asked only where t holds
pub asked_if : (t : Bool) (ts : List Test) → first_of (only_if t ts) ≡ pick t (first_of ts) 0
unfolding first_of
asked_if true [] = refl
asked_if true (t ∷ ts) = ap (pick t.holds t.number) (asked_if true ts)
asked_if false [] = refl
asked_if false (t ∷ ts) = asked_if false ts
