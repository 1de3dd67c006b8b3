-- The exact points of a vector.
use Rattle.std.specs.Prelude.{ℕ, ◌-◌, ℤ, pos, ◌+ℤ◌, ◌*ℤ◌}

-- of the exact point that pixel i of n stands for, along an axis from x to y: n times its coordinate
abbrev pub exact : ℤ → ℤ → ℕ → ℕ → ℤ
exact x y n i = x *ℤ pos (n - i) +ℤ y *ℤ pos i
