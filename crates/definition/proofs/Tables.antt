-- Tables of numbers: what is one of a list, that a table has all the numbers of another, that two have none in common, and tests that agree on all small numbers.
use Prim.Native.Nat.{ℕ, zero, suc, ◌≤◌, ◌<◌}
use mathlib.Core.Bool.{Bool, true, false, not, ◌&&◌}
use mathlib.Core.List.{List, [], ◌∷◌}
use mathlib.Core.Path.{◌≡◌, sym, ◌∙◌}
use mathlib.Core.Logic.{⊎_elim}
use native.Mathlib.Omega.{arith}
use native.Mathlib.Decide.{ℕ_discrete}
use lib.Dec.{eqb, leb}
use borrow.Author.Tests.{eqb-true, le-leb}
use Rattle.definition.specs.Choice.{pick, among}
use Rattle.definition.proofs.Exactly.{apart}
use Rattle.definition.proofs.Plain.{not_true, both_true, either_true}

-- every number of a list is of such a kind
abbrev pub all_of : (ℕ → Bool) → List ℕ → Bool
all_of is [] = true
all_of is (k ∷ ks) = is k && all_of is ks

pub one_of : (is : ℕ → Bool) (ks : List ℕ) (n : ℕ) → all_of is ks ≡ true → among n ks ≡ true → is n ≡ true
one_of is [] n e h = absurd (apart (sym h))
one_of is (k ∷ ks) n e h =
    let w = both_true.0 e in
    ⊎_elim (λ q. rw (eqb-true n k q) w.0) (λ q. one_of is ks n w.1 q) ((either_true {s = eqb n k}).0 h)

-- a number of one table is in another, by a test that computes
pub in_both : (ks ls : List ℕ) (n : ℕ) → all_of (λ k. among k ls) ks ≡ true → among n ks ≡ true → among n ls ≡ true
in_both ks ls n e h = one_of (λ k. among k ls) ks n e h

-- or in no other
pub in_one : (ks ls : List ℕ) (n : ℕ) → all_of (λ k. not (among k ls)) ks ≡ true → among n ks ≡ true → among n ls ≡ true → ⊥
in_one ks ls n e h q = apart (sym q ∙ not_true.0 (one_of (λ k. not (among k ls)) ks n e h))

-- ---- two tests that agree on every number below k, by a test that computes
abbrev same : Bool → Bool → Bool
same true t = t
same false t = not t

is_same : (s t : Bool) → same s t ≡ true → s ≡ t
is_same true t e = sym e
is_same false t e = sym (not_true.0 e)

abbrev pub agree : (ℕ → Bool) → (ℕ → Bool) → ℕ → Bool
agree is be zero = true
agree is be (suc k) = same (is k) (be k) && agree is be k

agreed : (is be : ℕ → Bool) (k n : ℕ) → agree is be k ≡ true → n < k → is n ≡ be n
agreed is be zero n e h = absurd (omega arith)
agreed is be (suc k) n e h = let w = (both_true {s = same (is k) (be k)}).0 e in go (ℕ_discrete n k) w.0 (λ l. agreed is be k n w.1 l)
  where
    go : Dec (n ≡ k) → same (is k) (be k) ≡ true → (n < k → is n ≡ be n) → is n ≡ be n
    go (yes q) s below = rw q (is_same (is k) (be k) s)
    go (no q) s below = below (omega arith)

-- or from a to below b
pub spanned : (is be : ℕ → Bool) (a b n : ℕ) → a ≤ n → n < b → agree (λ k. pick (leb a k) (is k) (be k)) be b ≡ true → be n ≡ is n
spanned is be a b n h l e = sym (rw (le-leb a n h) at (agreed (λ k. pick (leb a k) (is k) (be k)) be b n e l))
