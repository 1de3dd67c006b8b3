-- How many pixels a step stores at most, so that a run's count of them fits.
use Prim.Native.Nat.{ℕ, ◌≤◌}
use mathlib.Core.Bool.{Bool, true, false, ◌&&◌}
use mathlib.Core.Path.{◌≡◌}
use mathlib.Core.List.{List, []}
use native.Mathlib.Omega.{arith}
use lib.ListN.{length, length-append}
use lib.IntN.{pos}
use borrow.Author.Tests.{not-false}
use Rattle.definition.specs.Choice.{pick}
use Rattle.definition.specs.Units.{units, moved}
use Rattle.definition.specs.Image.{pixel_at, inside}
use Rattle.definition.specs.Words.{long}
use Rattle.definition.specs.Characters.{cell_of}
use Rattle.definition.specs.Machine.{shape_of, in_range, ranged}
use Rattle.definition.specs.Step.{Given, way_of, item_way, advance, character_at, leaves, vector_by, item_pixels, stored_of}
use Rattle.definition.specs.Step.Change.{Move}
use Rattle.definition.specs.declared.Units.{Units}
use Rattle.definition.specs.declared.Pixel.{Pixel}
use Rattle.definition.specs.declared.Machine.{Machine}
use Rattle.definition.specs.declared.Item.{Item}
use Rattle.definition.specs.declared.Item.TheVariants.{ShortVector, LongVector, AbsolutePoint, GraphX, GraphY, RelativePoint, Characters}
use Rattle.definition.specs.declared.Instruction.{Instruction}
use Rattle.definition.specs.declared.Instruction.TheVariants.{Does, Draws}
use Rattle.image.proofs.DrawnLaws.{inside_shorter}
use Rattle.image.proofs.CellCounts.{cell_few}
use Rattle.vector.proofs.ReachLaws.{reaches, vector_short}
use Rattle.items.specs.Goes.{kept}
use Rattle.definition.proofs.StepLaws.{ranges}

pub kept_shorter : (m : Machine) (lit : Bool) (ps : List Pixel) → length (kept m lit ps) ≤ length ps
unfolding kept
kept_shorter m lit ps = go (lit && m.write)
  where
    go : (t : Bool) → length (pick t (inside (shape_of m) ps) []) ≤ length ps
    go true = inside_shorter (shape_of m) ps
    go false = omega arith

module _ (g : Given) (m : Machine) (h : ranged m ≡ true) where
  vector_few : (dx dy : Units) → leaves m.x (Move dx) ≡ false → leaves m.y (Move dy) ≡ false → length (vector_by m dx dy) ≤ 4096
  vector_few dx dy lx ly =
      let w = (ranges m).0 h in
      vector_short _ _ (reaches _ _ w.x w.y) (reaches _ _ (not-false (in_range (moved m.x dx)) lx) (not-false (in_range (moved m.y dy)) ly))

  item_few : (it : Item) (v : ℕ) → leaves m.x (item_way m.increment it v).x ≡ false → leaves m.y (item_way m.increment it v).y ≡ false → length (item_pixels g m it v) ≤ 4096
  item_few (ShortVector dx dy) v lx ly = vector_few dx dy lx ly
  item_few (LongVector dx) v lx ly = vector_few dx (long v) lx ly
  item_few (AbsolutePoint x) v lx ly = omega arith
  item_few (GraphX x) v lx ly = omega arith
  item_few (GraphY y) v lx ly = omega arith
  item_few (RelativePoint dx dy) v lx ly = omega arith
  item_few (Characters a b) v lx ly = omega (arith, length-append (character_at g.set m m.x m.y a) (character_at g.set m (moved m.x (units (pos advance))) m.y b), cell_few (pixel_at (shape_of m) m.x m.y) (cell_of g.set a), cell_few (pixel_at (shape_of m) (moved m.x (units (pos advance))) m.y) (cell_of g.set b))

-- while the step is not refused by 27
pub stored_few : (g : Given) (m : Machine) (i : Instruction) (v : ℕ) → ranged m ≡ true → leaves m.x (way_of m.increment i v).x ≡ false → leaves m.y (way_of m.increment i v).y ≡ false
    → length (stored_of g m i v) ≤ 4096
unfolding kept
stored_few g m (Does o) v h lx ly = omega arith
stored_few g m (Draws lit it) v h lx ly = omega (arith, kept_shorter m lit (item_pixels g m it v), item_few g m h it v lx ly)
