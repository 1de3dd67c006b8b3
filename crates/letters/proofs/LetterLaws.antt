-- Laws of a word of two characters: where a character leads, the corner of its cell, the set that serves, and what both draw.
use Prim.Native.Nat.{ℕ, ◌+◌, ◌*◌, ◌≤◌}
use mathlib.Core.Bool.{true, false}
use mathlib.Core.Path.{◌≡◌, refl, sym, ap, ◌∙◌}
use mathlib.Core.List.{List}
use mathlib.Core.Logic.{◌⊎◌}
use lib.ListN.{length}
use lib.IntN.{pos, negsuc, ◌+ℤ◌}
use lib.Signed.{le_z}
use borrow.Author.Tests.{ne_eqb}
use Rattle.whole.specs.Parts.{whole, add}
use Rattle.definition.specs.Units.{units, moved}
use Rattle.definition.specs.Image.{square, pixel_at, left, stores}
use Rattle.definition.specs.BuiltIn.{built_in}
use Rattle.definition.specs.Characters.{chosen}
use Rattle.definition.specs.Machine.{shape_of, pen_of, in_range}
use Rattle.definition.specs.Step.{Step, Way, leaves, advance, character_at, refuses}
use Rattle.definition.specs.Step.Change.{Stay}
use Rattle.definition.specs.declared.Units.{Units}
use Rattle.definition.specs.declared.Pixel.{Pixel}
use Rattle.definition.specs.declared.Machine.{Machine}
use Rattle.definition.proofs.Plain.{both_true, either_true}
use Rattle.image.specs.Drawn.{drawn}
use Rattle.vector.specs.Raised.{Reaches}
use Rattle.vector.proofs.ReachLaws.{reaches}
use Rattle.cells.specs.Cell.{Near}
use Rattle.image.proofs.DrawnLaws.{drawn_then}
use Rattle.cells.proofs.DrawLaws.{cell_at_most}
use Rattle.outcome.specs.Outcome.{told, stepped, no_set, put_off}
use Rattle.outcome.specs.declared.Stepped.{Stepped}
use Rattle.outcome.proofs.PutOffLaws.{refused_now, set_there, later}
use Rattle.items.specs.Ends.{Leads}
use Rattle.items.specs.Goes.{kept, lights, placed, goes}
use Rattle.items.proofs.ItemLaws.{goes_out}
use Rattle.letters.specs.Pair.{pair_pixels}

-- ---- where a character leads
module _ (u : Units) (h : in_range u ≡ true) where
  bounds : (le_z (negsuc 4095) u.0 ≡ true) × (le_z u.0 (pos 4095) ≡ true)
  unfolding in_range
  bounds = (both_true {s = le_z (negsuc 4095) u.0} {t = le_z u.0 (pos 4095)}).0 h

  -- where both characters lead within the range, the first does too
  pub half_way : in_range (moved u (units (pos (2 * advance)))) ≡ true → in_range (moved u (units (pos advance))) ≡ true
  unfolding in_range moved
  half_way e =
      let b = bounds in
      let d = (both_true {s = le_z (negsuc 4095) (u.0 +ℤ pos 32)} {t = le_z (u.0 +ℤ pos 32) (pos 4095)}).0 e in
      let l : le_z (negsuc 4095) (u.0 +ℤ pos 16) ≡ true = omega (whole, add u.0 (pos 16)) in
      let r : le_z (u.0 +ℤ pos 16) (pos 4095) ≡ true = omega (whole, add u.0 (pos 16), add u.0 (pos 32)) in
      rw (l, r)

  pub stay_leads : Leads u Stay u
  stay_leads = record { stays = refl; to = refl; within = h }

-- ---- one character
near : (p : Pixel) → Reaches p → Near p.x × Near p.y
near p h = (record { low = omega whole; high = omega whole }, record { low = omega whole; high = omega whole })

pub corner_near : (x y : Units) (p : Pixel) → p ≡ pixel_at square x y → in_range x ≡ true → in_range y ≡ true → Near p.x × Near p.y
corner_near x y p e hx hy = near p (rw e (reaches x y hx hy))

module _ (m : Machine) (set : List ℕ) (im : List ℕ) where
  pub letter_at_most : (x : Units) (code : ℕ) {r : ℕ} {im' : List ℕ} → left r im' ≡ drawn (shape_of m) (pen_of m) im (character_at set m x m.y code) → r ≤ 64
  letter_at_most x code d = cell_at_most (shape_of m) (pen_of m) im _ _ d

  -- ---- both characters
  pub both_lit : (first second : ℕ) {next : Units} → next ≡ moved m.x (units (pos advance)) → m.write ≡ true → {n r : ℕ} {im' im'' : List ℕ}
      → left n im' ≡ drawn (shape_of m) (pen_of m) im (character_at set m m.x m.y first) → left r im'' ≡ drawn (shape_of m) (pen_of m) im' (character_at set m next m.y second)
      → left (n + r) im'' ≡ lights m true im (pair_pixels set m first second)
  unfolding lights kept drawn
  both_lit first second e w d d' = rw (w, ← e) (drawn_then (shape_of m) (pen_of m) im _ _ d d')

-- the set that is there is the one that serves
pub serving : (set : List ℕ) → (length set ≡ 0 → ⊥) → chosen set built_in ≡ set
unfolding chosen
serving set h = rw (ne_eqb _ _ h)

-- ---- the word, by what was asked: whether X may move, and whether a set is there
module _ (m : Machine) (im : List ℕ) (set : List ℕ) (w : Way) (ps : List Pixel) where
  abbrev word : Step
  word = goes m true w ps false

  pub word_refused : (leaves m.x w.x ≡ true) ⊎ (leaves m.y w.y ≡ true) → {r : Stepped} → r ≡ told (refuses m 27) → left r im ≡ stepped m im (put_off true set m word)
  unfolding goes
  word_refused h e =
      let z : word.steps ≡ 0 = rw (either_true.1 h) in
      goes_out m true im w false ps h e ∙ ap (stepped m im) (sym (refused_now true set m word z))

  pub word_put_off : {x y : Units} → Leads m.x w.x x → Leads m.y w.y y → length set ≡ 0 → {r : Stepped} → r ≡ told (refuses m no_set) → left r im ≡ stepped m im (put_off true set m word)
  unfolding goes placed stepped stores
  word_put_off lx ly z e =
      let one : word.steps ≡ 1 = rw (lx.stays, ly.stays) in
      rw (later set m word z one, e)

  pub word_done : {r : Stepped} {im' : List ℕ} → (length set ≡ 0 → ⊥) → left r im' ≡ stepped m im word → left r im' ≡ stepped m im (put_off true set m word)
  word_done h e = e ∙ ap (stepped m im) (sym (set_there true set m word h))
