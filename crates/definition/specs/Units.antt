-- Display units, pixels, and the one way from the first to the second.
use Rattle.std.specs.Prelude.{ℕ, ℤ, ◌+ℤ◌}
use Rattle.std.specs.Int.Signed.{shr_z}
use Rattle.definition.specs.declared.Units.{Units}
use Rattle.definition.specs.declared.Pixels.{Pixels}
use Rattle.definition.specs.declared.Pixel.{Pixel}

abbrev pub units : ℤ → Units
units z = record { 0 = z }

abbrev pub pixels : ℤ → Pixels
pixels z = record { 0 = z }

abbrev pub pixel : ℤ → ℤ → Pixel
pixel x y = record { x = pixels x; y = pixels y }

-- where d units make a pixel: the quotient rounded down, also below zero, which is what shr_z gives
unfoldable pub pixels_of : ℕ → Units → Pixels
pixels_of d u = pixels (shr_z u.0 d)

unfoldable pub moved : Units → Units → Units
moved u by = units (u.0 +ℤ by.0)
