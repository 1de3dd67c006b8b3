-- Laws of a step that may be put off.
use Rattle.std.proofs.Common.{◌≡◌, ℕ, Bool, true, false, ◌&&◌, eqb, ◌⊎◌, List, length, refl, ap, ◌∙◌, inl, inr, eq-eqb, ne_eqb, eqb-true}
use Rattle.definition.specs.Choice.{pick}
use Rattle.definition.specs.Step.{Step, refuses}
use Rattle.definition.specs.declared.Machine.{Machine}
use Rattle.definition.proofs.Plain.{both_true}
use Rattle.outcome.specs.Outcome.{no_set, put_off}

module _ (letters : Bool) (set : List ℕ) (m : Machine) (t : Step) where
  -- a refused step is not put off, and none is while there is a set
  pub refused_now : t.steps ≡ 0 → put_off letters set m t ≡ t
  unfolding put_off
  refused_now z = ap (λ (n : ℕ). pick (letters && eqb (length set) 0 && eqb n 1) (refuses m no_set) t) z ∙ go letters (eqb (length set) 0)
    where
      go : (a b : Bool) → pick (a && b && false) (refuses m no_set) t ≡ t
      go true true = refl
      go true false = refl
      go false b = refl

  pub set_there : (length set ≡ 0 → ⊥) → put_off letters set m t ≡ t
  unfolding put_off
  set_there h = rw (ne_eqb _ _ h) (go letters)
    where
      go : (a : Bool) → pick (a && false && eqb t.steps 1) (refuses m no_set) t ≡ t
      go true = refl
      go false = refl

  -- it goes as it would, or is put off, and then there is no set
  pub now_or_later : (put_off letters set m t ≡ t) ⊎ ((length set ≡ 0) × (put_off letters set m t ≡ refuses m no_set))
  unfolding put_off
  now_or_later = go (letters && eqb (length set) 0 && eqb t.steps 1) refl
    where
      go : (b : Bool) → letters && eqb (length set) 0 && eqb t.steps 1 ≡ b → (pick b (refuses m no_set) t ≡ t) ⊎ ((length set ≡ 0) × (pick b (refuses m no_set) t ≡ refuses m no_set))
      go true e = inr (eqb-true _ _ ((both_true {s = letters}).0 ((both_true {s = letters && eqb (length set) 0}).0 e).0).1, refl)
      go false e = inl refl

pub later : (set : List ℕ) (m : Machine) (t : Step) → length set ≡ 0 → t.steps ≡ 1 → put_off true set m t ≡ refuses m no_set
unfolding put_off
later set m t z e = rw (eq-eqb _ _ z, e)
