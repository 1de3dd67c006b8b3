-- What is in a list: in two lists joined, among the pixels in the field, and among the strokes of pixels.
use mathlib.Core.Bool.{Bool, true, false}
use mathlib.Core.List.{List, [], ◌∷◌, ◌++◌, reverse, reverse-cons}
use mathlib.Core.Path.{◌≡◌, refl, sym, ap, ◌∙◌}
use mathlib.Core.Logic.{◌⊎◌, inl, inr, ⊎_elim, ◌↔◌}
use Rattle.definition.specs.Choice.{pick}
use Rattle.definition.specs.Image.{Shape, in_field, inside}
use Rattle.definition.specs.declared.Pixel.{Pixel}
use Rattle.definition.specs.declared.Machine.{Machine}
use Rattle.definition.proofs.Exactly.{apart}
use Rattle.definition.proofs.Plain.{◌so◌, ◌and◌, ◌or◌, itself, is_most_z, is_less_z, both_true}
use Rattle.demands.specs.Conditions.{Among, InField}
use Rattle.demands.specs.Strokes.{Stroke, strokes_of}

pub in_append : {A : Type 0} (a : A) (xs ys : List A) → Among a (xs ++ ys) ↔ (Among a xs ⊎ Among a ys)
in_append a [] ys = (λ h. inr h, ⊎_elim (λ n. absurd n) (λ h. h))
in_append a (x ∷ xs) ys =
    itself or in_append a xs ys
    so (⊎_elim (λ e. inl (inl e)) (⊎_elim (λ h. inl (inr h)) (λ h. inr h)), ⊎_elim (⊎_elim (λ e. inl e) (λ h. inr (inl h))) (λ h. inr (inr h)))

pub in_reverse : {A : Type 0} (a : A) (xs : List A) → Among a (reverse xs) → Among a xs
in_reverse a [] h = h
in_reverse a (x ∷ xs) h = ⊎_elim (λ k. inr (in_reverse a xs k)) (⊎_elim (λ e. inl e) (λ n. absurd n)) ((in_append a (reverse xs) (x ∷ [])).0 (rw (reverse-cons x xs) at h))

-- ---- the field
pub in_field_is : (s : Shape) (p : Pixel) → (in_field s p ≡ true) ↔ InField s p
unfolding in_field
in_field_is s p =
    both_true so (both_true so is_most_z and is_less_z) and (both_true so is_most_z and is_less_z)
    so (λ w. record { x = w.0; y = w.1 }, λ f. (f.x, f.y))

pub in_inside : (s : Shape) (p : Pixel) (ps : List Pixel) → Among p (inside s ps) ↔ (InField s p × Among p ps)
unfolding inside
in_inside s p [] = (λ n. absurd n, λ h. absurd h.1)
in_inside s p (q ∷ qs) = go (in_field s q) refl (in_inside s p qs)
  where
    go : (t : Bool) → in_field s q ≡ t → Among p (inside s qs) ↔ (InField s p × Among p qs)
        → Among p (pick t (q ∷ inside s qs) (inside s qs)) ↔ (InField s p × ((p ≡ q) ⊎ Among p qs))
    go true e ih = (
      ⊎_elim (λ h. (rw h ((in_field_is s q).0 e), inl h)) (λ h. ((ih.0 h).0, inr (ih.0 h).1)),
      λ w. ⊎_elim (λ h. inl h) (λ h. inr (ih.1 (w.0, h))) w.1,
    )
    go false e ih = (
      λ h. ((ih.0 h).0, inr (ih.0 h).1),
      λ w. ⊎_elim (λ h. absurd (apart (sym ((in_field_is s q).1 (rw h at w.0)) ∙ e))) (λ h. ih.1 (w.0, h)) w.1,
    )

-- ---- strokes
pub in_strokes : (m : Machine) (t : Stroke) (ps : List Pixel) → Among t (strokes_of m ps) ↔ ((t.machine ≡ m) × Among t.pixel ps)
in_strokes m t [] = (λ n. absurd n, λ h. absurd h.1)
in_strokes m t (p ∷ ps) = let ih = in_strokes m t ps in (
  ⊎_elim (λ e. (ap (λ (u : Stroke). u.machine) e, inl (ap (λ (u : Stroke). u.pixel) e))) (λ h. ((ih.0 h).0, inr (ih.0 h).1)),
  λ w. ⊎_elim (λ e. inl (same w.0 e)) (λ h. inr (ih.1 (w.0, h))) w.1,
)
  where
    same : t.machine ≡ m → t.pixel ≡ p → t ≡ record { machine = m; pixel = p }
    same a b = λ i. record { machine = a i; pixel = b i }
