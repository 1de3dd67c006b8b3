-- What a run draws: every stroke of it, where each comes from, and what stands at a pixel after it. Each theorem has a proof of a line here, as in Demands.antt;
-- the words of the statements are defined in specs/Strokes.antt, Cells.antt, Graphs.antt and Conditions.antt.
use Prim.Native.Nat.{ℕ, suc, ◌+◌, ◌-◌, ◌*◌, ◌≤◌, ◌<◌, ◌%◌}
use mathlib.Core.Bool.{true, false}
use mathlib.Core.List.{List, [], ◌∷◌, ◌++◌, reverse}
use mathlib.Core.Path.{◌≡◌}
use mathlib.Core.Logic.{◌⊎◌, ◌↔◌}
use lib.ListN.{length, get_or, replicate}
use lib.IntN.{ℤ, pos, ◌+ℤ◌}
use lib.Signed.{◌≤ℤ◌}
use Rattle.definition.specs.Units.{units, pixel, moved}
use Rattle.definition.specs.Image.{Shape, square, image_bytes, pixel_at, inside}
use Rattle.definition.specs.File.{number_in}
use Rattle.definition.specs.Words.{bit, bits, short_x, short_y, long, first_code, second_code}
use Rattle.definition.specs.BuiltIn.{built_in}
use Rattle.definition.specs.Characters.{set_bytes, cell_of, cell_pixels}
use Rattle.definition.specs.Machine.{with_counter, with_position, shape_of, pen_of}
use Rattle.definition.specs.Step.{Given, first, refusal, step}
use Rattle.definition.specs.Run.{State, begun, after, run}
use Rattle.definition.specs.Calls.{Lent, lending, given, answered, run_call, step_call, read_call}
use Rattle.definition.specs.declared.Units.{Units}
use Rattle.definition.specs.declared.Pixel.{Pixel}
use Rattle.definition.specs.declared.Machine.{Machine}
use Rattle.demands.specs.Conditions.{Among, InRange, Fits, Open, During, InField, On, Off, LitWord, BlankWord, HasCell, word}
use Rattle.demands.specs.Ledger.{completed}
use Rattle.demands.specs.Graphs.{Axis, AllLit, stepped, weeks, of_lit, shown, week_at, Ready, plotted}
use Rattle.demands.specs.Cells.{LitIn, first_corner, second_corner, ByCharacters, DrawnCharacters}
use Rattle.demands.specs.Strokes.{Stroke, strokes_of, strokes, stroke_pixels, drawn, ledger_words, Lights, lights_between, Plots, vector_between, longer_between, OnVector, LitVector, VectorWords, negated, Turned, seen, standing, Unstruck}
use Rattle.demands.proofs.Strokes as all
use Rattle.demands.proofs.Origins as origins
use Rattle.demands.proofs.Places as places
use Rattle.demands.proofs.VectorOrigins as vectors
use Rattle.demands.proofs.Standing as stands
use Rattle.demands.proofs.Graphs as graphs
use Rattle.demands.proofs.WeekStrokes as in_order
use Rattle.demands.proofs.Weeks as seen_weeks
use Rattle.demands.proofs.Characters as letters
use Rattle.demands.proofs.BuiltIn as set
use Rattle.demands.proofs.BackWords as words

-- ==== The strokes of a run

-- the image after a run is the one before with its strokes stored in order, and nothing else
pub run_image : (g : Given) (b : ℕ) (s : State) → (run g b s).image ≡ drawn s.image (strokes g b s)
run_image = all.run_image

-- the counts are of these strokes, and of the words of the completed instructions (of the instructions themselves: nothing_left_out)
pub run_stores : (g : Given) (b : ℕ) (s : State) → (run g b s).counts.stores ≡ s.counts.stores + length (strokes g b s)
run_stores = all.run_stores

pub run_words : (g : Given) (b : ℕ) (s : State) → (run g b s).counts.words ≡ s.counts.words + ledger_words (completed g b s)
run_words = all.run_words

-- and so of a call whose doors are open, whose counts begin at nothing
module _ (l : Lent) (m : Machine) (im : List ℕ) (b : ℕ) (o : Open l m im b) where
  pub call_image : (run_call l m im b).image ≡ drawn im (strokes (given l) b (begun m im))
  call_image = all.call_image l m im b o

  pub call_stores : (run_call l m im b).result.counts.stores ≡ length (strokes (given l) b (begun m im))
  call_stores = all.call_stores l m im b o

  pub call_words : (run_call l m im b).result.counts.words ≡ ledger_words (completed (given l) b (begun m im))
  call_words = all.call_words l m im b o

-- a run of b + c strokes what a run of b does, and then what a run of c from there does
pub strokes_in_a_row : (g : Given) (b c : ℕ) (s : State) → strokes g (b + c) s ≡ strokes g b s ++ strokes g c (run g b s)
strokes_in_a_row = origins.strokes_add

-- one step at a time: the first step's strokes are what it stores, in order, and the rest are those of the run from there
pub strokes_first : (g : Given) (b : ℕ) (s : State) → s.machine.status ≡ 0 → strokes g (suc b) s ≡ strokes_of s.machine (step g s.machine).pixels ++ strokes g b (after s (step g s.machine))
strokes_first = origins.strokes_first

-- a completed step of a lit data word with write on stores those pixels in the field that its mode lights between its two positions, in their order; any other
-- step stores none. In mode 0 every data word is lit, in the other modes one with bit 14 set
pub lit_stores : (g : Given) (m : Machine) → refusal g m ≡ 0 → m.write ≡ true → Off 15 (word g m) → LitWord m.mode (word g m)
    → (step g m).pixels ≡ inside (shape_of m) (lights_between g m.mode (word g m) m (step g m).machine)
lit_stores = places.lit_stores

pub else_stores_none : (g : Given) (m : Machine) → (m.write ≡ false) ⊎ (On 15 (word g m) ⊎ BlankWord m.mode (word g m)) → (step g m).pixels ≡ []
else_stores_none = places.else_stores_none

-- ==== Where a stroke comes from

-- a stroke is of a run exactly when the machine after some k < b steps, which runs, is the stroke's own, and lights its pixel
pub stroke_origin : (g : Given) (b : ℕ) (s : State) (t : Stroke) → Among t (strokes g b s) ↔ During g b s (λ m. (t.machine ≡ m) × Lights g m t.pixel)
stroke_origin = origins.stroke_origin

-- the same in words and positions alone: the word there has bit 15 clear, and bit 14 set or its mode is 0; write is on; and the pixel is in the field and one
-- of those that its mode lights between the position before the step and the one after it
pub stroke_in_words : (g : Given) (b : ℕ) (s : State) (t : Stroke) → Among t (strokes g b s) ↔ During g b s (λ m. (t.machine ≡ m) × Plots g m t.pixel)
stroke_in_words = places.stroke_in_words

-- in modes 1 and 2: it is pixel i of the vector from where step k began to where it ended, and lies near the exact line between the two
pub vector_origin : (g : Given) (b : ℕ) (s : State) (t : Stroke) → Among t (strokes g b s) → (t.machine.mode ≡ 1) ⊎ (t.machine.mode ≡ 2)
    → (k : ℕ) × ((k < b) × ((t.machine ≡ (run g k s).machine) × OnVector (run g k s).machine (run g (suc k) s).machine t.pixel))
vector_origin = vectors.vector_origin

-- and the other way round: of a completed vector, lit and with write on, every pixel in the field is a stroke, its two ends among them
module _ (g : Given) (b : ℕ) (s : State) (k : ℕ) (below : k < b) (running : (run g k s).machine.status ≡ 0) (v : LitVector g (run g k s).machine) where
  abbrev m : Machine
  m = (run g k s).machine

  abbrev m' : Machine
  m' = (run g (suc k) s).machine

  pub vector_drawn : (i : ℕ) (d : Pixel) → i ≤ longer_between m m' → InField (shape_of m) (get_or (vector_between m m') i d)
      → Among (record { machine = m; pixel = get_or (vector_between m m') i d }) (strokes g b s)
  vector_drawn = vectors.vector_drawn g b s k below running v

  pub start_drawn : InField (shape_of m) (pixel_at (shape_of m) m.x m.y) → Among (record { machine = m; pixel = pixel_at (shape_of m) m.x m.y }) (strokes g b s)
  start_drawn = vectors.start_drawn g b s k below running v

  pub end_drawn : InField (shape_of m) (pixel_at (shape_of m) m'.x m'.y) → Among (record { machine = m; pixel = pixel_at (shape_of m) m'.x m'.y }) (strokes g b s)
  end_drawn = vectors.end_drawn g b s k below running v

-- ==== What stands after a run, from a machine in range

module _ (g : Given) (b : ℕ) (s : State) (fits : Fits s.machine) where
  -- a pixel with no stroke reads as before
  pub unstruck_reads : (p : Pixel) → Unstruck p (strokes g b s) → read_call square (run g b s).image p ≡ read_call square s.image p
  unstruck_reads = stands.unstruck_reads g b s fits

  module _ (l : length s.image ≡ image_bytes) (p : Pixel) (f : InField square p) where
    -- what its strokes make, in order, of the digit that stood there
    pub what_stands : seen square (run g b s).image p ≡ standing p (seen square s.image p) (strokes g b s)
    what_stands = stands.what_stands g b s fits l p f

    -- so the last stroke there replaces it by its pixel value
    pub last_stroke_stands : (before since : List Stroke) (t : Stroke) → strokes g b s ≡ before ++ (t ∷ since) → p ≡ t.pixel → Unstruck p since → seen square (run g b s).image p ≡ t.machine.value
    last_stroke_stands = stands.last_stroke_stands g b s fits l p f

    -- and a digit that differs from before was stored by an instruction of the run, with this value
    pub changed_by : (seen square (run g b s).image p ≡ seen square s.image p → ⊥) → During g b s (λ m. Plots g m p × (m.value ≡ seen square (run g b s).image p))
    changed_by = stands.changed_by g b s fits l p f

-- ==== Graph words, lit or blank, on either axis (the state after them: graph_y_plots_then_steps and graph_x_plots_then_steps of Demands.antt)

module _ (axis : Axis) (g : Given) (s : State) (ws : List ℕ) (r : Ready axis g s ws) where
  -- their strokes: the places of the lit ones in the field, in the order of the words, while write is on; each stored with the pen that the machine has before them
  pub week_strokes : stroke_pixels (strokes g (length ws) s)
      ≡ shown s.machine (of_lit ws (weeks axis (shape_of s.machine) (stepped axis s.machine).0 s.machine.increment 0 ws))
  week_strokes = in_order.week_strokes axis g s ws r

  pub week_ink : (t : Stroke) → Among t (strokes g (length ws) s) → (shape_of t.machine ≡ shape_of s.machine) × (pen_of t.machine ≡ pen_of s.machine)
  week_ink t = in_order.week_ink axis g s ws t r

  module _ (fits : Fits s.machine) where
    -- after them each lit one in the field reads the pixel value at its place: k increments from the start, at its own value
    pub week_k_reads : (k : ℕ) → length s.image ≡ image_bytes → s.machine.write ≡ true → k < length ws → On 14 (get_or ws k 0) → InField square (week_at axis s.machine ws k)
        → read_call square (run g (length ws) s).image (week_at axis s.machine ws k) ≡ record { answer = 0; digit = s.machine.value }
    week_k_reads = seen_weeks.week_reads axis g s ws r fits

    -- and every pixel that is not the place of a lit one reads as before
    pub no_week_reads : (p : Pixel) → ((k : ℕ) → k < length ws → On 14 (get_or ws k 0) → p ≡ week_at axis s.machine ws k → ⊥)
        → read_call square (run g (length ws) s).image p ≡ read_call square s.image p
    no_week_reads = seen_weeks.no_week_reads axis g s ws r fits

-- the same of a call, with a budget of as many steps as there are words: all that it answers and leaves, and what a reader sees of it
module _ (axis : Axis) (l : Lent) (m : Machine) (im ws : List ℕ) (o : Open l m im (length ws)) (r : Ready axis (given l) (begun m im) ws) where
  pub call_weeks : run_call l m im (length ws) ≡ answered (plotted axis (begun m im) ws)
  call_weeks = seen_weeks.call_weeks axis l m im ws o r

  pub call_week_reads : (k : ℕ) → m.write ≡ true → k < length ws → On 14 (get_or ws k 0) → InField square (week_at axis m ws k)
      → read_call square (run_call l m im (length ws)).image (week_at axis m ws k) ≡ record { answer = 0; digit = m.value }
  call_week_reads = seen_weeks.call_week_reads axis l m im ws o r

  pub call_no_week_reads : (p : Pixel) → ((k : ℕ) → k < length ws → On 14 (get_or ws k 0) → p ≡ week_at axis m ws k → ⊥)
      → read_call square (run_call l m im (length ws)).image p ≡ read_call square im p
  call_no_week_reads = seen_weeks.call_no_week_reads axis l m im ws o r

-- where every word is lit, all their places are
pub all_lit : (axis : Axis) (h : Shape) (x : ℤ) (g j : ℕ) (ws : List ℕ) → AllLit ws → of_lit ws (weeks axis h x g j ws) ≡ weeks axis h x g j ws
all_lit = graphs.all_lit

-- ==== Characters: the words of mode 0

-- a cell lights a pixel exactly when it is in row r from the top and column k from the left, and bit 7 - k of byte r is set
pub cell_lights : (corner : Pixel) (cell : List ℕ) (p : Pixel) → Among p (cell_pixels corner cell) ↔ LitIn corner cell p
cell_lights = letters.cell_lights

-- byte r of the cell of code c is byte 8 (c - 32) + r of the set; of a set of 760 bytes every cell has eight
pub cell_byte : (set : List ℕ) (c r : ℕ) → r < 8 → get_or (cell_of set c) r 0 ≡ get_or set (8 * (c - 32) + r) 0
cell_byte = letters.cell_byte

pub cell_length : (set : List ℕ) (c : ℕ) → length set ≡ set_bytes → HasCell c → length (cell_of set c) ≡ 8
cell_length = letters.cell_length

-- a word of two characters is completed exactly when it is fetched, both its codes are in 32 to 126, and X and 32 sum to at most 4,095
pub character_completes : (g : Given) (m : Machine) → Fits m → Off 15 (word g m) → m.mode ≡ 0
    → (refusal g m ≡ 0) ↔ ((number_in (first g m) ≡ 0) × ((HasCell (first_code (word g m)) × HasCell (second_code (word g m))) × ((m.x.0 +ℤ pos 32) ≤ℤ pos 4095)))
character_completes = letters.character_completes

-- completed: the counter goes on by a word, X by 32 units, and nothing else of the machine is changed
pub character_word : (g : Given) (m : Machine) → refusal g m ≡ 0 → Off 15 (word g m) → m.mode ≡ 0
    → (step g m).machine ≡ with_position (with_counter m ((m.counter + 2) % 65536)) (units (m.x.0 +ℤ pos 32)) m.y
character_word = letters.character_word

-- with write on it stores a pixel exactly when it is in the field, and lit by the cell of the first code at the position's pixel or by that of the second at
-- the pixel of 16 units further right (with write off it stores none: else_stores_none)
pub character_stores : (g : Given) (m : Machine) → refusal g m ≡ 0 → Off 15 (word g m) → m.mode ≡ 0 → m.write ≡ true
    → (p : Pixel) → Among p (step g m).pixels ↔ (InField (shape_of m) p × ByCharacters g m p)
character_stores = letters.character_stores

-- the second cell stands directly to the right of the first
pub second_corner_is : (m : Machine) → second_corner m ≡ pixel ((first_corner m).x.0 +ℤ pos 8) (first_corner m).y.0
second_corner_is = letters.second_corner_is

-- so of a run: a stroke of mode 0 is of it exactly when such a word, completed from a running machine, which is the stroke's own, lights its pixel
pub character_origin : (g : Given) (b : ℕ) (s : State) (t : Stroke)
    → ((t.machine.mode ≡ 0) × Among t (strokes g b s)) ↔ During g b s (λ m. (t.machine ≡ m) × (DrawnCharacters g m × (InField (shape_of m) t.pixel × ByCharacters g m t.pixel)))
character_origin = letters.character_origin

-- after such a word a pixel of the field that it lights reads the pixel value, and every pixel that it does not light reads as before
module _ (g : Given) (m : Machine) (im : List ℕ) (fits : Fits m) (running : m.status ≡ 0) (d : DrawnCharacters g m) where
  pub character_reads : (p : Pixel) → length im ≡ image_bytes → InField square p → ByCharacters g m p → read_call square (run g 1 (begun m im)).image p ≡ record { answer = 0; digit = m.value }
  character_reads = letters.character_reads g m im fits running d

  pub no_character_reads : (p : Pixel) → (ByCharacters g m p → ⊥) → read_call square (run g 1 (begun m im)).image p ≡ read_call square im p
  no_character_reads = letters.no_character_reads g m im fits running d

-- the same of a step that is called, with a set that may be lent (which set serves: below)
module _ (l : Lent) (m : Machine) (im : List ℕ) (o : Open l m im 1) (d : DrawnCharacters (given l) m) where
  pub call_character_reads : (p : Pixel) → InField square p → ByCharacters (given l) m p → read_call square (step_call l m im).image p ≡ record { answer = 0; digit = m.value }
  call_character_reads = letters.call_character_reads l m im o d

  pub call_no_character_reads : (p : Pixel) → (ByCharacters (given l) m p → ⊥) → read_call square (step_call l m im).image p ≡ read_call square im p
  call_no_character_reads = letters.call_no_character_reads l m im o d

-- ---- the built-in set: 760 bytes; no two of its cells are alike, so the ten digits' all differ; that of code 32 is blank and no other is
pub built_in_length : length built_in ≡ set_bytes
built_in_length = set.built_in_length

pub built_in_bytes : (i : ℕ) → i < set_bytes → get_or built_in i 0 < 256
built_in_bytes = set.built_in_bytes

pub all_cells_differ : (a b : ℕ) → 32 ≤ a → a < b → b ≤ 126 → cell_of built_in a ≡ cell_of built_in b → ⊥
all_cells_differ = set.all_cells_differ

pub digits_differ : (a b : ℕ) → 48 ≤ a → a < b → b ≤ 57 → cell_of built_in a ≡ cell_of built_in b → ⊥
digits_differ = set.digits_differ

pub space_blank : cell_of built_in 32 ≡ replicate 8 0
space_blank = set.space_blank

pub no_cell_blank : (c : ℕ) → 33 ≤ c → c ≤ 126 → cell_of built_in c ≡ replicate 8 0 → ⊥
no_cell_blank = set.no_cell_blank

-- ---- the set that serves: where an empty one is lent the built-in one does, and else the lent one
pub empty_set_is_built_in : (f : List ℕ) (m : Machine) (im : List ℕ) (b : ℕ) → run_call (lending f []) m im b ≡ run_call (lending f built_in) m im b
empty_set_is_built_in = set.empty_set_is_built_in

pub empty_set_steps : (f : List ℕ) (m : Machine) (im : List ℕ) → step_call (lending f []) m im ≡ step_call (lending f built_in) m im
empty_set_steps f m im = set.empty_set_is_built_in f m im 1

pub lent_set_serves : (f set : List ℕ) → length set ≡ set_bytes → (given (lending f set)).set ≡ set
lent_set_serves = set.lent_set_serves

-- ==== There and back: the words of a lit vector whose end is in range, and from its end the words of the vector with both moves negated

module _ (g : Given) (m : Machine) (dx dy : Units) (fits : Fits m) (x_in : InRange (moved m.x dx)) (y_in : InRange (moved m.y dy))
    (there : VectorWords g m dx dy) (back : VectorWords g (step g m).machine (negated dx) (negated dy)) where
  -- neither is refused, and after both the machine is as before, but for its counter
  pub both_complete : (refusal g m ≡ 0) × (refusal g (step g m).machine ≡ 0)
  both_complete = words.both_complete g m dx dy fits x_in y_in there back

  pub there_and_back : (step g (step g m).machine).machine ≡ with_counter m (step g (step g m).machine).machine.counter
  there_and_back = words.there_and_back g m dx dy fits x_in y_in there back

  -- the same pixels are stored, in the reverse order
  pub back_stores : (step g (step g m).machine).pixels ≡ reverse (step g m).pixels
  back_stores = words.back_stores g m dx dy fits x_in y_in there back

  module _ (running : m.status ≡ 0) (im : List ℕ) where
    -- on the same first image the two leave the same image
    pub back_image : (run g 1 (begun (step g m).machine im)).image ≡ (run g 1 (begun m im)).image
    back_image = words.back_image g m dx dy fits x_in y_in there back running im

    -- and the way back, drawn over the first vector, changes nothing
    pub back_over : length im ≡ image_bytes → (run g 2 (begun m im)).image ≡ (run g 1 (begun m im)).image
    back_over = words.back_over g m dx dy fits x_in y_in there back running im

-- the moves of a word are negated by the same word with its signs turned, where their sizes are not zero
pub turned_short : (w w' : ℕ) → bits 12 7 w' ≡ bits 12 7 w → bits 5 0 w' ≡ bits 5 0 w → Turned (bits 12 7 w) (bit 13 w) (bit 13 w') → Turned (bits 5 0 w) (bit 6 w) (bit 6 w')
    → (short_x w' ≡ negated (short_x w)) × (short_y w' ≡ negated (short_y w))
turned_short = words.turned_short

pub turned_long : (w w' : ℕ) → bits 9 0 w' ≡ bits 9 0 w → Turned (bits 9 0 w) (bit 13 w) (bit 13 w') → long w' ≡ negated (long w)
turned_long = words.turned_long
