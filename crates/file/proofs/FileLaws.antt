-- The segments from the last one down: what the rule asks of those below one, in two parts.
use Prim.Native.Nat.{ℕ, zero, suc, ◌-◌, ◌<◌}
use mathlib.Core.Bool.{◌&&◌}
use mathlib.Core.List.{List}
use mathlib.Core.Path.{◌≡◌}
use native.Mathlib.Numerals.{sub-one}
use native.Mathlib.Omega.{arith}
use lib.ListN.{length}
use Rattle.definition.specs.File.{offset, size, header, keeps, keep_below}

pub keep_next : (f : List ℕ) (i : ℕ) → 0 < i → keep_below f i ≡ keeps (header f) (length f) (offset f (i - 1)) (size f (i - 1)) && keep_below f (i - 1)
unfolding keep_below
keep_next f zero p = absurd (omega arith)
keep_next f (suc i) p = rw sub-one
