-- Laws of a list that is numbered from 0.
use Prim.Native.Nat.{ℕ, zero, suc, ◌-◌, ◌<◌}
use mathlib.Core.Path.{◌≡◌, refl, sym, ap, ◌∙◌}
use mathlib.Core.List.{List, [], ◌∷◌, ◌++◌, reverse, reverse-append}
use native.Mathlib.Omega.{arith}
use native.Mathlib.Decide.{ℕ_discrete}
use lib.ListN.{get_or, get_or-append}
use lib.Seq.{get_or_at}
use Rattle.definition.specs.Vector.{numbered}
use Rattle.definition.proofs.VectorLaws.{numbered_length}

module _ {A : Type 0} where
  pub numbered_at : (f : ℕ → A) (k i : ℕ) (d : A) → i < k → get_or (numbered f k) i d ≡ f i
  unfolding numbered
  numbered_at f zero i d h = absurd (omega arith)
  numbered_at f (suc k) i d h = go (ℕ_discrete i k) (numbered_at f k i d)
    where
      go : Dec (i ≡ k) → (i < k → get_or (numbered f k) i d ≡ f i) → get_or (numbered f k ++ (f k ∷ [])) i d ≡ f i
      go (yes e) ih = get_or_at (numbered f k) (f k) [] d i (numbered_length f k ∙ sym e) ∙ ap f (sym e)
      go (no n) ih = let l = numbered_length f k in get_or-append (numbered f k) (f k ∷ []) d i (omega arith) ∙ ih (omega arith)

  pub numbered_same : (f g : ℕ → A) (k : ℕ) → ((i : ℕ) → i < k → f i ≡ g i) → numbered f k ≡ numbered g k
  unfolding numbered
  numbered_same f g zero h = refl
  numbered_same f g (suc k) h = rw (numbered_same f g k (λ i p. h i (omega arith)), h k (omega arith))

  numbered_front : (f : ℕ → A) (k : ℕ) → numbered f (suc k) ≡ f 0 ∷ numbered (λ i. f (suc i)) k
  unfolding numbered
  numbered_front f zero = refl
  numbered_front f (suc k) = ap (λ (l : List A). l ++ (f (suc k) ∷ [])) (numbered_front f k)

  pub numbered_reverse : (f : ℕ → A) (k : ℕ) → reverse (numbered f k) ≡ numbered (λ i. f (k - suc i)) k
  unfolding numbered
  numbered_reverse f zero = refl
  numbered_reverse f (suc k) =
      reverse-append (numbered f k) (f k ∷ [])
      ∙ ap (λ (l : List A). f k ∷ l) (numbered_reverse f k)
      ∙ ap (λ (l : List A). f k ∷ l) (numbered_same (λ i. f (k - suc i)) (λ i. f (suc k - suc (suc i))) k (λ i p. ap f (omega arith)))
      ∙ ap (λ (x : A). x ∷ numbered (λ i. f (suc k - suc (suc i))) k) (ap f (omega arith))
      ∙ sym (numbered_front (λ i. f (suc k - suc i)) k)
