-- A step: what an instruction is refused for, and what it does where it is not refused.
use Rattle.std.specs.Prelude.{ℕ, Result, ◌*◌, Bool, false, not, ◌&&◌, ◌||◌, List, [], ◌∷◌, ◌++◌, eqb, pos}
use Rattle.definition.specs.Choice.{pick, Test, ◌when◌, first_of, joined, only_if}
use Rattle.definition.specs.Units.{units, moved}
use Rattle.definition.specs.Image.{pixel_at, inside}
use Rattle.definition.specs.File.{Memory, word_in, fetch_refusals}
use Rattle.definition.specs.Words.{long, coordinate, decode, jumps, is_paired, has_second, words_of, first_refusals, second_refusals}
use Rattle.definition.specs.Vector.{vector}
use Rattle.definition.specs.Characters.{cell_of, cell_pixels}
use Rattle.definition.specs.Machine.{next, past, with_counter, with_position, with_mode, with_write, with_latch, with_increment, with_status, shape_of, in_range}
use Rattle.definition.specs.declared.Units.{Units}
use Rattle.definition.specs.declared.Pixel.{Pixel}
use Rattle.definition.specs.declared.Machine.{Machine}
use Rattle.definition.specs.declared.Unfetched.{Unfetched}
use Rattle.definition.specs.declared.Order.{Order}
use Rattle.definition.specs.declared.Order.TheVariants.{SetMode, Jump, NoOp, StatusA, Increment, StatusC}
use Rattle.definition.specs.declared.Item.{Item}
use Rattle.definition.specs.declared.Item.TheVariants.{ShortVector, LongVector, AbsolutePoint, GraphX, GraphY, RelativePoint, Characters}
use Rattle.definition.specs.declared.Instruction.{Instruction}
use Rattle.definition.specs.declared.Instruction.TheVariants.{Does, Draws}

-- what a run is given, beside its machine, its image and its budget: words by their addresses, and the set of characters that serves
pub record Given : Type 0 where
  pub memory : Memory
  pub set : List ℕ

-- ---- where an instruction takes the position
-- of a coordinate: it stays, is set outright, or is moved
pub data Change : Type 0 where
  Stay : Change
  Set : Units → Change
  Move : Units → Change

abbrev pub changed : Units → Change → Units
changed u Stay = u
changed u (Set v) = v
changed u (Move d) = moved u d

-- the new coordinate would leave its range
abbrev pub leaves : Units → Change → Bool
leaves u Stay = false
leaves u (Set v) = not (in_range v)
leaves u (Move d) = not (in_range (moved u d))

pub record Way : Type 0 where
  pub x : Change
  pub y : Change

abbrev pub way : Change → Change → Way
way x y = record { x = x; y = y }

-- each character advances X by so many units
abbrev pub advance : ℕ
advance = 16

-- by the increment g, the item and its second word v
abbrev pub item_way : ℕ → Item → ℕ → Way
item_way g (ShortVector dx dy) v = way (Move dx) (Move dy)
item_way g (LongVector dx) v = way (Move dx) (Move (long v))
item_way g (AbsolutePoint x) v = way (Set x) (Set (coordinate v))
item_way g (GraphX x) v = way (Set x) (Move (units (pos g)))
item_way g (GraphY y) v = way (Move (units (pos g))) (Set y)
item_way g (RelativePoint dx dy) v = way (Move dx) (Move dy)
item_way g (Characters first second) v = way (Move (units (pos (2 * advance)))) Stay

abbrev pub way_of : ℕ → Instruction → ℕ → Way
way_of g (Does o) v = way Stay Stay
way_of g (Draws lit it) v = item_way g it v

-- ---- the pixels that an item lights
abbrev pub point_at : Machine → Units → Units → List Pixel
point_at m x y = pixel_at (shape_of m) x y ∷ []

abbrev pub vector_by : Machine → Units → Units → List Pixel
vector_by m dx dy = vector (pixel_at (shape_of m) m.x m.y) (pixel_at (shape_of m) (moved m.x dx) (moved m.y dy))

-- a character with the lower left corner of its cell at the pixel of (x, y)
abbrev pub character_at : List ℕ → Machine → Units → Units → ℕ → List Pixel
character_at set m x y c = cell_pixels (pixel_at (shape_of m) x y) (cell_of set c)

-- in the graph modes the coordinate that will grow is still the one before the step; the second of two characters is where the first has led
abbrev pub item_pixels : Given → Machine → Item → ℕ → List Pixel
item_pixels g m (ShortVector dx dy) v = vector_by m dx dy
item_pixels g m (LongVector dx) v = vector_by m dx (long v)
item_pixels g m (AbsolutePoint x) v = point_at m x (coordinate v)
item_pixels g m (GraphX x) v = point_at m x m.y
item_pixels g m (GraphY y) v = point_at m m.x y
item_pixels g m (RelativePoint dx dy) v = point_at m (moved m.x dx) (moved m.y dy)
item_pixels g m (Characters first second) v =
    character_at g.set m m.x m.y first
    ++ character_at g.set m (moved m.x (units (pos advance))) m.y second

-- those that are stored: of a lit item, while write is on, in the field
abbrev pub stored_of : Given → Machine → Instruction → ℕ → List Pixel
stored_of g m (Does o) v = []
stored_of g m (Draws lit it) v = pick (lit && m.write) (inside (shape_of m) (item_pixels g m it v)) []

-- ---- the machine after an instruction
-- a stop goes by the latch as it then is
abbrev pub stopping : Bool → Machine → Machine
stopping stops m = with_status m (pick stops (pick m.latch 2 1) m.status)

-- an order, but for the counter
unfoldable pub ordered : Machine → Order → Machine
ordered m (SetMode b) = with_mode m b.mode (pick b.sets b.value m.value)
ordered m Jump = m
ordered m NoOp = m
ordered m (StatusA b) = stopping b.stops (with_latch m (pick b.loads b.latch m.latch))
ordered m (Increment b) = with_increment m (pick b.sets b.increment m.increment)
ordered m (StatusC b) = with_write m (pick (eqb b.channel 0) b.write m.write)

-- a jump's counter is its second word, of any value
unfoldable pub done : Machine → Instruction → ℕ → Machine
done m (Does o) v = with_counter (ordered m o) (pick (jumps o) v (next m.counter))
done m (Draws lit it) v =
    with_position (with_counter m (past (words_of (Draws lit it)) m.counter))
    (changed m.x (item_way m.increment it v).x)
    (changed m.y (item_way m.increment it v).y)

-- ---- the step
-- what stands at the counter, and after it
abbrev pub first : Given → Machine → Result ℕ Unfetched
first g m = g.memory m.counter

abbrev pub second : Given → Machine → Result ℕ Unfetched
second g m = g.memory (next m.counter)

abbrev pub instruction : Given → Machine → Instruction
instruction g m = decode m.mode (word_in (first g m))

unfoldable pub way_refusals : Machine → Way → List Test
way_refusals m w = 27 when (leaves m.x w.x || leaves m.y w.y) ∷ []

-- in their order: first fetch, first word, second fetch, second word, move
unfoldable pub refusals : Machine → Result ℕ Unfetched → Instruction → Result ℕ Unfetched → List Test
refusals m got i more =
    joined
    (fetch_refusals got
    ∷ first_refusals m.mode (word_in got)
    ∷ only_if (has_second i) (fetch_refusals more)
    ∷ only_if (is_paired i) (second_refusals (word_in more))
    ∷ way_refusals m (way_of m.increment i (word_in more))
    ∷ [])

unfoldable pub refusal : Given → Machine → ℕ
refusal g m = first_of (refusals m (first g m) (instruction g m) (second g m))

-- what a step leaves and counts, and the pixels that it stores, in their order
pub record Step : Type 0 where
  pub machine : Machine
  pub steps : ℕ
  pub words : ℕ
  pub pixels : List Pixel

abbrev pub completes : Given → Machine → Instruction → ℕ → Step
completes g m i v = record { machine = done m i v; steps = 1; words = words_of i; pixels = stored_of g m i v }

-- a refusal sets the status and nothing else, and is not counted
abbrev pub refuses : Machine → ℕ → Step
refuses m why = record { machine = with_status m why; steps = 0; words = 0; pixels = [] }

unfoldable pub step : Given → Machine → Step
step g m = pick (eqb (refusal g m) 0) (completes g m (instruction g m) (word_in (second g m))) (refuses m (refusal g m))
