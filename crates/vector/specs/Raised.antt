-- The pixels that a position in range can have, at two units a pixel: what the drawing asks of a vector's ends, so that its sums fit in 32 bits.
use Rattle.std.specs.Prelude.{ℕ, ◌+◌, ◌-◌, ◌*◌, ◌/◌, pos, negsuc, ◌≤ℤ◌}
use Rattle.definition.specs.declared.Pixels.{Pixels}
use Rattle.definition.specs.declared.Pixel.{Pixel}

pub record Reached (p : Pixels) : Type 0 where
  pub low : negsuc 2047 ≤ℤ p.0
  pub high : p.0 ≤ℤ pos 2047

pub record Reaches (p : Pixel) : Type 0 where
  pub x : Reached p.x
  pub y : Reached p.y

-- the rounded coordinate of the definition, where the two ends are counted from -2,048 and so are naturals
abbrev pub nearest_to : ℕ → ℕ → ℕ → ℕ → ℕ
nearest_to s e n i = (2 * (s * (n - i) + e * i) + n) / (2 * n)
