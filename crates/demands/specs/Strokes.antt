-- A run's strokes: every store that it makes, in order, read off the instructions that it completed; where a stroke comes from, and what strokes leave.
use Rattle.std.specs.Prelude.{ℕ, ◌+◌, ◌*◌, ◌≤◌, ◌<◌, Bool, true, not, ◌&&◌, ◌||◌, List, [], ◌∷◌, ◌++◌, map, ◌≡◌, ◌⊎◌, eqb, get_or, ℤ, pos, neg_ℤ, nat_abs, ◌-ℤ◌, ◌*ℤ◌}
use Rattle.std.specs.Int.Signed.{le_z}
use Rattle.definition.specs.Choice.{pick}
use Rattle.definition.specs.Units.{units}
use Rattle.definition.specs.Image.{Shape, pixel_at, digit_at, store}
use Rattle.definition.specs.File.{number_in}
use Rattle.definition.specs.Words.{short_x, short_y, long, words_of}
use Rattle.definition.specs.Vector.{longer, vector}
use Rattle.definition.specs.Machine.{shape_of, pen_of}
use Rattle.definition.specs.Step.{item_pixels, stored_of, done, Given, first, second, instruction, refusal, step}
use Rattle.definition.specs.Run.{State}
use Rattle.definition.specs.declared.Units.{Units}
use Rattle.definition.specs.declared.Pixel.{Pixel}
use Rattle.definition.specs.declared.Machine.{Machine}
use Rattle.definition.specs.declared.Item.{Item}
use Rattle.definition.specs.declared.Instruction.TheVariants.{Draws}
use Rattle.demands.specs.Conditions.{Among, InField, On, Off, LitWord, word, more}
use Rattle.demands.specs.Exact.{exact}
use Rattle.demands.specs.Cells.{characters}
use Rattle.demands.specs.Ledger.{Entry, completed}

-- ---- strokes
-- a store: its pixel, and the machine as it was before the step, whose shape and pen it is made with
pub record Stroke : Type 0 where
  pub machine : Machine
  pub pixel : Pixel

abbrev pub strokes_of : Machine → List Pixel → List Stroke
strokes_of m [] = []
strokes_of m (p ∷ ps) = record { machine = m; pixel = p } ∷ strokes_of m ps

-- those of instructions that a machine completes one after the other
abbrev pub strokes_by : Given → Machine → List Entry → List Stroke
strokes_by g m [] = []
strokes_by g m (e ∷ es) = strokes_of m (stored_of g m e.what e.second) ++ strokes_by g (done m e.what e.second) es

-- of a run of budget b
unfoldable pub strokes : Given → ℕ → State → List Stroke
strokes g b s = strokes_by g s.machine (completed g b s)

-- their pixels, in their order
abbrev pub stroke_pixels : List Stroke → List Pixel
stroke_pixels ts = map (λ (t : Stroke). t.pixel) ts

-- an image with strokes stored in it, one after the other
abbrev pub stroked : List ℕ → Stroke → List ℕ
stroked im t = store (shape_of t.machine) (pen_of t.machine) im (nat_abs t.pixel.x.0) (nat_abs t.pixel.y.0)

abbrev pub drawn : List ℕ → List Stroke → List ℕ
drawn im [] = im
drawn im (t ∷ ts) = drawn (stroked im t) ts

-- the words of instructions
abbrev pub ledger_words : List Entry → ℕ
ledger_words [] = 0
ledger_words (e ∷ es) = words_of e.what + ledger_words es

-- ---- where a stroke comes from
-- the instruction at the machine's counter is completed, is a lit item with write on, and this pixel of the field is one of its pixels
pub record Lights (g : Given) (m : Machine) (p : Pixel) : Type 0 where
  pub free : refusal g m ≡ 0
  pub writing : m.write ≡ true
  pub item : Item
  pub lit : instruction g m ≡ Draws true item
  pub field : InField (shape_of m) p
  pub pixel : Among p (item_pixels g m item (more g m))

-- the vector between the positions of two machines, and its n
abbrev pub vector_between : Machine → Machine → List Pixel
vector_between m m' = vector (pixel_at (shape_of m) m.x m.y) (pixel_at (shape_of m) m'.x m'.y)

abbrev pub longer_between : Machine → Machine → ℕ
longer_between m m' = longer (pixel_at (shape_of m) m.x m.y) (pixel_at (shape_of m) m'.x m'.y)

-- what a lit data word w lights, by its mode and the positions before and after its step: in mode 0 its characters from the position before, in the set that
-- is given; in modes 1 and 2 the vector between the positions, in modes 4 and 5 the pixel whose stepped coordinate is still the one before, in modes 3 and 6
-- the pixel of the position after
abbrev pub lights_between : Given → ℕ → ℕ → Machine → Machine → List Pixel
lights_between g mode w m m' =
    pick (eqb mode 0) (characters g.set m w)
    (pick (eqb mode 1 || eqb mode 2) (vector_between m m')
    (pick (eqb mode 4) (pixel_at (shape_of m) m'.x m.y ∷ [])
    (pick (eqb mode 5) (pixel_at (shape_of m) m.x m'.y ∷ [])
    (pixel_at (shape_of m) m'.x m'.y ∷ []))))

-- the same as Lights, in words, positions and the set of characters alone
pub record Plots (g : Given) (m : Machine) (p : Pixel) : Type 0 where
  pub free : refusal g m ≡ 0
  pub on : m.write ≡ true
  pub data_word : Off 15 (word g m)
  pub lit : LitWord m.mode (word g m)
  pub field : InField (shape_of m) p
  pub pixel : Among p (lights_between g m.mode (word g m) m (step g m).machine)

-- 2n times a coordinate of pixel i differs from the numerator of its exact point, between two positions in units, by less than 2n
abbrev pub Near : ℕ → ℕ → ℤ → Units → Units → Type 0
Near n i z u u' = nat_abs (pos (2 * n) *ℤ z -ℤ exact u.0 u'.0 n i) < 2 * n

-- twice a coordinate is within 1 of either position
abbrev pub AtEnds : ℤ → Units → Units → Type 0
AtEnds z u u' = (nat_abs (pos 2 *ℤ z -ℤ u.0) ≤ 1) × (nat_abs (pos 2 *ℤ z -ℤ u'.0) ≤ 1)

-- a pixel of the vector between the positions of two machines: pixel i of 0 to n, and near the exact line
pub record OnVector (m m' : Machine) (p : Pixel) : Type 0 where
  pub i : ℕ
  pub within : i ≤ longer_between m m'
  pub is : get_or (vector_between m m') i p ≡ p
  pub near : 0 < longer_between m m' → Near (longer_between m m') i p.x.0 m.x m'.x × Near (longer_between m m') i p.y.0 m.y m'.y
  pub one : longer_between m m' ≡ 0 → AtEnds p.x.0 m.x m'.x × AtEnds p.y.0 m.y m'.y

-- a completed vector, lit and with write on, stands at the machine's counter
pub record LitVector (g : Given) (m : Machine) : Type 0 where
  pub completes : refusal g m ≡ 0
  pub writes : m.write ≡ true
  pub data_word : Off 15 (word g m)
  pub is_lit : On 14 (word g m)
  pub mode : (m.mode ≡ 1) ⊎ (m.mode ≡ 2)

-- the words of a lit vector by (dx, dy) stand at the machine's counter: one word of mode 1, or two of mode 2
pub record ShortWord (g : Given) (m : Machine) (dx dy : Units) : Type 0 where
  pub mode : m.mode ≡ 1
  pub fetched : number_in (first g m) ≡ 0
  pub data_word : Off 15 (word g m)
  pub lit : On 14 (word g m)
  pub across : short_x (word g m) ≡ dx
  pub upward : short_y (word g m) ≡ dy

pub record LongWords (g : Given) (m : Machine) (dx dy : Units) : Type 0 where
  pub mode : m.mode ≡ 2
  pub fetched : number_in (first g m) ≡ 0
  pub data_word : Off 15 (word g m)
  pub lit : On 14 (word g m)
  pub fetched_too : number_in (second g m) ≡ 0
  pub data_too : Off 15 (more g m)
  pub across : long (word g m) ≡ dx
  pub upward : long (more g m) ≡ dy

abbrev pub VectorWords : Given → Machine → Units → Units → Type 0
VectorWords g m dx dy = ShortWord g m dx dy ⊎ LongWords g m dx dy

abbrev pub negated : Units → Units
negated d = units (neg_ℤ d.0)

-- a sign turned, of a size that is not zero; with size zero the sign is free
abbrev pub Turned : ℕ → Bool → Bool → Type 0
Turned size sign sign' = (size ≡ 0) ⊎ (sign' ≡ not sign)

-- ---- what strokes leave
-- the digit that stands at a pixel of the field
abbrev pub seen : Shape → List ℕ → Pixel → ℕ
seen h im p = digit_at h im (nat_abs p.x.0) (nat_abs p.y.0)

abbrev pub same_number : ℤ → ℤ → Bool
same_number a b = le_z a b && le_z b a

abbrev pub same_pixel : Pixel → Pixel → Bool
same_pixel p q = same_number p.x.0 q.x.0 && same_number p.y.0 q.y.0

-- what the strokes at a pixel make of the digit there, one after the other
abbrev pub standing : Pixel → ℕ → List Stroke → ℕ
standing p d [] = d
standing p d (t ∷ ts) = standing p (pick (same_pixel p t.pixel) (pen_of t.machine d) d) ts

-- no stroke of a list is at this pixel
abbrev pub Unstruck : Pixel → List Stroke → Type 0
Unstruck p ts = (t : Stroke) → Among t ts → p ≡ t.pixel → ⊥
