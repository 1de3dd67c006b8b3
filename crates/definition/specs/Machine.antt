-- The machine: fresh, its parts set one by one, the counter's way, and the ranges of its fields.
use Rattle.std.specs.Prelude.{ℕ, zero, suc, ◌+◌, ◌%◌, ◌^◌, Bool, true, false, not, ◌&&◌, ◌||◌, List, [], ◌∷◌, eqb, leb, ltb, pos, negsuc}
use Rattle.std.specs.Int.Signed.{le_z}
use Rattle.definition.specs.Choice.{among, Test, ◌when◌}
use Rattle.definition.specs.Units.{units}
use Rattle.definition.specs.Image.{Shape, Pen, ink_shape, ink_pen}
use Rattle.definition.specs.Words.{none, sets_mode}
use Rattle.definition.specs.declared.Units.{Units}
use Rattle.definition.specs.declared.Machine.{Machine}
use Rattle.definition.specs.declared.Ink.{Ink}

abbrev pub fresh : Machine
fresh = record { counter = 0; x = units (pos 0); y = units (pos 0); mode = none; value = 3; write = true; latch = false; increment = 0; status = 0 }

-- one part set, the rest kept
abbrev pub with_counter : Machine → ℕ → Machine
with_counter m c = record { counter = c; x = m.x; y = m.y; mode = m.mode; value = m.value; write = m.write; latch = m.latch; increment = m.increment; status = m.status }

abbrev pub with_position : Machine → Units → Units → Machine
with_position m x y = record { counter = m.counter; x = x; y = y; mode = m.mode; value = m.value; write = m.write; latch = m.latch; increment = m.increment; status = m.status }

abbrev pub with_mode : Machine → ℕ → ℕ → Machine
with_mode m k v = record { counter = m.counter; x = m.x; y = m.y; mode = k; value = v; write = m.write; latch = m.latch; increment = m.increment; status = m.status }

abbrev pub with_write : Machine → Bool → Machine
with_write m w = record { counter = m.counter; x = m.x; y = m.y; mode = m.mode; value = m.value; write = w; latch = m.latch; increment = m.increment; status = m.status }

abbrev pub with_latch : Machine → Bool → Machine
with_latch m l = record { counter = m.counter; x = m.x; y = m.y; mode = m.mode; value = m.value; write = m.write; latch = l; increment = m.increment; status = m.status }

abbrev pub with_increment : Machine → ℕ → Machine
with_increment m n = record { counter = m.counter; x = m.x; y = m.y; mode = m.mode; value = m.value; write = m.write; latch = m.latch; increment = n; status = m.status }

abbrev pub with_status : Machine → ℕ → Machine
with_status m s = record { counter = m.counter; x = m.x; y = m.y; mode = m.mode; value = m.value; write = m.write; latch = m.latch; increment = m.increment; status = s }

-- a start: the counter and the status are set, the rest is kept
abbrev pub started_at : Machine → ℕ → Machine
started_at m a = with_status (with_counter m a) 0

-- the counter goes up by 2 a word, and after 65,534 comes 0
abbrev pub next : ℕ → ℕ
next c = (c + 2) % 2 ^ 16

abbrev pub past : ℕ → ℕ → ℕ
past zero c = c
past (suc words) c = past words (next c)

-- what its stores write with: the shape of its image, and what they leave
abbrev pub ink_of : Machine → Ink
ink_of m = record { value = m.value }

abbrev pub shape_of : Machine → Shape
shape_of m = ink_shape (ink_of m)

abbrev pub pen_of : Machine → Pen
pen_of m = ink_pen (ink_of m)

-- ---- the ranges
unfoldable pub in_range : Units → Bool
in_range u = le_z (negsuc 4095) u.0 && le_z u.0 (pos 4095)

unfoldable pub is_mode : ℕ → Bool
is_mode k = eqb k none || sets_mode k

-- what an instruction can be refused for; the statuses are running, the two stops and these
abbrev pub refusal_numbers : List ℕ
refusal_numbers = 21 ∷ 22 ∷ 23 ∷ 24 ∷ 25 ∷ 26 ∷ 27 ∷ 32 ∷ []

abbrev pub statuses : List ℕ
statuses = 0 ∷ 1 ∷ 2 ∷ refusal_numbers

unfoldable pub is_status : ℕ → Bool
is_status s = among s statuses

-- every field is in its range; the counter and the two flags have no other values
unfoldable pub ranged : Machine → Bool
ranged m =
    in_range m.x
    && in_range m.y
    && is_mode m.mode
    && ltb m.value (shape_of m).base
    && leb m.increment 63
    && is_status m.status

unfoldable pub machine_doors : Machine → List Test
machine_doors m = 16 when not (ranged m) ∷ []
