-- The cell of a code, and the coordinates in a cell, over plain variables.
use Prim.Native.Nat.{ℕ, ◌-◌, ◌*◌, ◌≤◌}
use mathlib.Core.Bool.{true, false}
use mathlib.Core.Path.{◌≡◌}
use mathlib.Core.List.{List}
use native.Mathlib.Omega.{arith}
use lib.Dec.{leb}
use lib.ListN.{length, drop, length-drop}
use lib.Seq.{length-take-le}
use lib.IntN.{pos, negsuc}
use lib.Signed.{lt_z}
use mir.Syntax.{w32}
use mir.Val.{SFits}
use mir.Facts.{to_z-of_z}
use Rattle.whole.specs.Bits.{rd}
use Rattle.definition.specs.Words.{is_code}
use Rattle.definition.specs.Characters.{set_bytes, cell_of}
use Rattle.definition.specs.declared.Pixels.{Pixels}
use Rattle.definition.proofs.Plain.{both_true, is_most}
use Rattle.cells.specs.Cell.{aside}

-- ---- the cell
pub code_bounds : (c : ℕ) → is_code c ≡ true → (32 ≤ c) × (c ≤ 126)
unfolding is_code
code_bounds c e = let b = (both_true {s = leb 32 c} {t = leb c 126}).0 e in (is_most.0 b.0, is_most.0 b.1)

pub cell_length : (set : List ℕ) (c : ℕ) → is_code c ≡ true → length set ≡ set_bytes → length (cell_of set c) ≡ 8
unfolding cell_of
cell_length set c e l = let b = code_bounds c e in rw (length-take-le 8 (drop (8 * (c - 32)) set) (simp length-drop (omega arith)))

-- ---- right or left of the field
module _ (p : Pixels) (f : SFits w32 p.0) where
  pub left_of : lt_z (rd w32 p.0) (negsuc 6) ≡ true → true ≡ aside p.0
  unfolding aside
  left_of t = rw (rw (to_z-of_z f) at t)

  pub not_left_of : lt_z (rd w32 p.0) (negsuc 6) ≡ false → lt_z (pos 511) (rd w32 p.0) ≡ aside p.0
  unfolding aside
  not_left_of t = rw (to_z-of_z f, rw (to_z-of_z f) at t)
