-- Laws of items: where a coordinate is led, what is lit, and the step of an item that is refused or goes.
use Prim.Native.Nat.{ℕ}
use mathlib.Core.Bool.{Bool, true, false, ◌&&◌}
use mathlib.Core.Path.{◌≡◌, refl, sym, ap, ◌∙◌}
use mathlib.Core.List.{List, [], ◌∷◌}
use mathlib.Core.Logic.{◌⊎◌}
use Rattle.std.specs.Prelude.{Option, Some, None}
use Rattle.definition.specs.Image.{Left, left, square, pixel_at, ink_shape, ink_pen, stores}
use Rattle.definition.specs.Vector.{vector}
use Rattle.definition.specs.Machine.{ink_of, in_range}
use Rattle.definition.specs.Step.{changed, leaves, Way, point_at, refuses}
use Rattle.definition.specs.Step.Change.{Set, Move}
use Rattle.definition.specs.declared.Units.{Units}
use Rattle.definition.specs.declared.Pixel.{Pixel}
use Rattle.definition.specs.declared.Machine.{Machine}
use Rattle.definition.specs.declared.Ink.{Ink}
use Rattle.definition.proofs.Plain.{either_true}
use Rattle.units.specs.Answers.{moved_to}
use Rattle.units.proofs.AnswerLaws.{moved_to_is, moved_out}
use Rattle.image.specs.Drawn.{drawn}
use Rattle.items.specs.Ends.{Leads}
use Rattle.outcome.specs.Outcome.{told, stepped, completed, words_if, arrived}
use Rattle.outcome.specs.declared.Stepped.{Stepped}
use Rattle.items.specs.Goes.{vector_to, kept, lights, placed, goes}

-- ---- where a coordinate is led
pub set_leads : (u v : Units) → in_range v ≡ true → Leads u (Set v) v
set_leads u v e = record { stays = rw e; to = refl; within = e }

module _ (u by : Units) {got : Option Units} (e : got ≡ moved_to u by) where
  pub move_leads : {v : Units} → got ≡ Some v → Leads u (Move by) v
  move_leads t = let w = moved_to_is u by (sym e ∙ t) in record { stays = rw w.0; to = w.1; within = rw (← w.1) w.0 }

  pub move_leaves : got ≡ None → leaves u (Move by) ≡ true
  move_leaves o = rw (moved_out u by (sym e ∙ o))

-- ---- what is lit
module _ (m : Machine) (lit : Bool) (im : List ℕ) {on : Bool} (e : on ≡ lit && m.write) where
  pub dark : (ps : List Pixel) → on ≡ false → left 0 im ≡ lights m lit im ps
  unfolding lights kept stores
  dark ps t = rw (← e, t)

  module _ (x y : Units) {n : ℕ} {im' : List ℕ} (t : on ≡ true) where
    pub lit_point : {p : Pixel} {k : Ink} → p ≡ pixel_at square x y → k ≡ ink_of m → left n im' ≡ drawn (ink_shape k) (ink_pen k) im (p ∷ []) → left n im' ≡ lights m lit im (point_at m x y)
    unfolding lights kept drawn
    lit_point ep ek d = rw (← e, t, ← ep, ← ek) d

    pub lit_line : {a b : Pixel} {k : Ink} → a ≡ pixel_at square m.x m.y → b ≡ pixel_at square x y → k ≡ ink_of m → left n im' ≡ drawn (ink_shape k) (ink_pen k) im (vector a b)
        → left n im' ≡ lights m lit im (vector_to m x y)
    unfolding lights kept drawn
    lit_line ea eb ek d = rw (← e, t) (d ∙ rw (ea, eb, ek))

-- ---- the item
module _ (m : Machine) (lit : Bool) (im : List ℕ) (w : Way) (second : Bool) {r : Stepped} where
  pub goes_out : (ps : List Pixel) → (leaves m.x w.x ≡ true) ⊎ (leaves m.y w.y ≡ true) → r ≡ told (refuses m 27) → left r im ≡ stepped m im (goes m lit w ps second)
  unfolding stepped goes stores
  goes_out ps h e = rw (either_true.1 h, e)

  -- f: what is lit, by where the item goes
  pub goes_to : (f : Units → Units → List Pixel) {x y : Units} {n : ℕ} {im' : List ℕ} → Leads m.x w.x x → Leads m.y w.y y
      → left n im' ≡ lights m lit im (f x y) → r ≡ completed (arrived m second x y) (words_if second) n
      → left r im' ≡ stepped m im (goes m lit w (f (changed m.x w.x) (changed m.y w.y)) second)
  unfolding stepped goes placed lights
  goes_to f lx ly d e =
      let count = ap (λ (l : Left ℕ). l.result) d in
      let image = ap (λ (l : Left ℕ). l.image) d in
      rw (lx.stays, ly.stays, lx.to, ly.to, e, count, image)
