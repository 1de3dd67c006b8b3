-- Every position in range has a pixel that the drawing takes; and between two such pixels a vector is short.
use Prim.Native.Nat.{suc, ◌≤◌}
use mathlib.Core.Bool.{Bool, true, false}
use mathlib.Core.Path.{◌≡◌}
use mathlib.Core.List.{[], ◌∷◌}
use native.Mathlib.Omega.{arith}
use lib.Dec.{eqb}
use lib.ListN.{length}
use lib.IntN.{pos, negsuc}
use lib.Signed.{le_z}
use Rattle.whole.specs.Parts.{whole, sub, abs, floor}
use Rattle.definition.specs.Choice.{pick}
use Rattle.definition.specs.Units.{pixels_of}
use Rattle.definition.specs.Image.{square, pixel_at}
use Rattle.definition.specs.Vector.{apart_x, apart_y, longer, nth, numbered, vector}
use Rattle.definition.specs.Machine.{in_range}
use Rattle.definition.specs.declared.Units.{Units}
use Rattle.definition.specs.declared.Pixel.{Pixel}
use Rattle.definition.proofs.Plain.{both_true}
use Rattle.definition.proofs.VectorLaws.{numbered_length}
use Rattle.vector.specs.Raised.{Reached, Reaches}

reached : (u : Units) → in_range u ≡ true → Reached (pixels_of 2 u)
unfolding in_range pixels_of
reached u e =
    let b = (both_true {s = le_z (negsuc 4095) u.0} {t = le_z u.0 (pos 4095)}).0 e in
    let f = floor u.0 2 (omega arith) in
    record { low = omega whole; high = omega whole }

pub reaches : (x y : Units) → in_range x ≡ true → in_range y ≡ true → Reaches (pixel_at square x y)
unfolding pixel_at
reaches x y ex ey = record { x = reached x ex; y = reached y ey }

longer_short : (a b : Pixel) → Reaches a → Reaches b → longer a b ≤ 4095
unfolding longer
longer_short a b ha hb = omega (whole, sub b.x.0 a.x.0, abs (apart_x a b), sub b.y.0 a.y.0, abs (apart_y a b))

pub vector_short : (a b : Pixel) → Reaches a → Reaches b → length (vector a b) ≤ 4096
unfolding vector
vector_short a b ha hb = go (eqb (longer a b) 0)
  where
    go : (t : Bool) → length (pick t (a ∷ []) (numbered (nth a b) (suc (longer a b)))) ≤ 4096
    go true = omega arith
    go false = omega (arith, numbered_length (nth a b) (suc (longer a b)), longer_short a b ha hb)
