-- The conditions of document 01's answers as plain propositions: what a file, a machine and a word are asked for.
use Rattle.std.specs.Prelude.{ℕ, ◌+◌, ◌≤◌, ◌<◌, Bool, true, false, List, [], ◌∷◌, ◌≡◌, ◌⊎◌, length, get_or, pos, negsuc, ◌+ℤ◌, ◌≤ℤ◌, ◌<ℤ◌}
use Rattle.definition.specs.Image.{Shape, image_bytes}
use Rattle.definition.specs.File.{tag, segments, offset, size, header, word_in, number_in}
use Rattle.definition.specs.Words.{none, bits, code, first_code, second_code, decode}
use Rattle.definition.specs.Characters.{set_bytes}
use Rattle.definition.specs.Machine.{statuses}
use Rattle.definition.specs.Step.{Way, way_of, changed, Given, first, second}
use Rattle.definition.specs.Run.{State, run}
use Rattle.definition.specs.Calls.{Lent}
use Rattle.definition.specs.declared.Units.{Units}
use Rattle.definition.specs.declared.Pixel.{Pixel}
use Rattle.definition.specs.declared.Machine.{Machine}

-- ---- the file
pub record Head (f : List ℕ) : Type 0 where
  pub two_words : 2 ≤ length f
  pub tagged : tag f ≡ 1
  pub some : 1 ≤ segments f
  pub few : segments f ≤ 8
  pub whole : header f ≤ length f

pub record Keeps (f : List ℕ) (i : ℕ) : Type 0 where
  pub after_header : header f ≤ offset f i
  pub short : size f i ≤ 4096
  pub inside : offset f i + size f i ≤ length f

pub record Accepted (f : List ℕ) : Type 0 where
  pub head : Head f
  pub each : (i : ℕ) → i < segments f → Keeps f i

-- two files with the same header words; and with the same words in their segments, too, whatever stands elsewhere
pub record SameHeader (f g : List ℕ) : Type 0 where
  pub same : (i : ℕ) → i < header f → get_or f i 0 ≡ get_or g i 0

pub record SameWords (f g : List ℕ) : Type 0 where
  pub headers : SameHeader f g
  pub same : (i k : ℕ) → i < segments f → k < size f i → get_or f (offset f i + k) 0 ≡ get_or g (offset f i + k) 0

-- ---- the machine
-- one of a list: a number of a table, a pixel or a stroke of several
abbrev pub Among : {A : Type 0} → A → List A → Type 0
Among a [] = ⊥
Among a (b ∷ bs) = (a ≡ b) ⊎ Among a bs

pub record InRange (u : Units) : Type 0 where
  pub low : negsuc 4095 ≤ℤ u.0
  pub high : u.0 ≤ℤ pos 4095

pub record Fits (m : Machine) : Type 0 where
  pub x : InRange m.x
  pub y : InRange m.y
  pub mode : (m.mode ≡ none) ⊎ (m.mode ≤ 6)
  pub value : m.value ≤ 3
  pub increment : m.increment ≤ 63
  pub status : Among m.status statuses

-- a set of characters that may be lent: none, or eight bytes for each code
abbrev pub Lendable : List ℕ → Type 0
Lendable set = (length set ≡ 0) ⊎ (length set ≡ set_bytes)

-- every door of a run open
pub record Open (l : Lent) (m : Machine) (im : List ℕ) (b : ℕ) : Type 0 where
  pub image : length im ≡ image_bytes
  pub file : Accepted l.file
  pub machine : Fits m
  pub budget : b ≤ 1000000
  pub set : Lendable l.set
  pub running : m.status ≡ 0

-- in a run of budget b there is a step, made from a running machine, of which P holds
abbrev pub During : Given → ℕ → State → (Machine → Type 0) → Type 0
During g b s P = (k : ℕ) × ((k < b) × (((run g k s).machine.status ≡ 0) × P (run g k s).machine))

-- a pixel of the field
pub record InField (s : Shape) (p : Pixel) : Type 0 where
  pub x : (pos 0 ≤ℤ p.x.0) × (p.x.0 <ℤ pos s.width)
  pub y : (pos 0 ≤ℤ p.y.0) × (p.y.0 <ℤ pos s.height)

-- ---- the words
-- bit k of a word is set, or clear
abbrev pub On : ℕ → ℕ → Type 0
On k w = bits k k w ≡ 1

abbrev pub Off : ℕ → ℕ → Type 0
Off k w = bits k k w ≡ 0

-- a data word, bit 15 clear, is lit by its bit 14, and in mode 0 always
abbrev pub LitWord : ℕ → ℕ → Type 0
LitWord mode w = (mode ≡ 0) ⊎ On 14 w

abbrev pub BlankWord : ℕ → ℕ → Type 0
BlankWord mode w = (mode ≡ 0 → ⊥) × Off 14 w

-- the codes of characters: those that have a cell, and those that have none
abbrev pub HasCell : ℕ → Type 0
HasCell c = (32 ≤ c) × (c ≤ 126)

abbrev pub NoCell : ℕ → Type 0
NoCell c = (c < 32) ⊎ (126 < c)

-- a word of a code that is not built; a data word with no mode; one of mode 0 with a code outside 32 to 126 in either half
abbrev pub NotBuilt : ℕ → Type 0
NotBuilt w = On 15 w × ((7 ≤ code w) × (code w ≤ 11))

abbrev pub NoMode : ℕ → ℕ → Type 0
NoMode mode w = Off 15 w × (mode ≡ none)

abbrev pub BadCode : ℕ → ℕ → Type 0
BadCode mode w = Off 15 w × ((mode ≡ 0) × (NoCell (first_code w) ⊎ NoCell (second_code w)))

-- what a first word is refused for
abbrev pub FirstRefused : ℕ → ℕ → Type 0
FirstRefused mode w = NotBuilt w ⊎ (NoMode mode w ⊎ BadCode mode w)

-- a first word of modes 2 and 3; and any first word that has a second
abbrev pub Pair : ℕ → ℕ → Type 0
Pair mode w = Off 15 w × ((mode ≡ 2) ⊎ (mode ≡ 3))

abbrev pub TwoWords : ℕ → ℕ → Type 0
TwoWords mode w = (On 15 w × (code w ≡ 12)) ⊎ Pair mode w

-- what a second word of modes 2 and 3 is refused for
abbrev pub SecondRefused : ℕ → Type 0
SecondRefused v = On 15 v

-- ---- a step, stage by stage; w and v are its words
abbrev pub word : Given → Machine → ℕ
word g m = word_in (first g m)

abbrev pub more : Given → Machine → ℕ
more g m = word_in (second g m)

-- the first fetch gives a word, which is not refused
pub record Begins (g : Given) (m : Machine) : Type 0 where
  pub fetched : number_in (first g m) ≡ 0
  pub allowed : FirstRefused m.mode (word g m) → ⊥

-- and where there is a second word, it is fetched and, in modes 2 and 3, not refused
pub record Continues (g : Given) (m : Machine) : Type 0 where
  pub begins : Begins g m
  pub fetched : TwoWords m.mode (word g m) → number_in (second g m) ≡ 0
  pub allowed : Pair m.mode (word g m) → SecondRefused (more g m) → ⊥

-- a fetch of this step is refused with this number: the first, or the second where there is one
abbrev pub FetchRefused : ℕ → Given → Machine → Type 0
FetchRefused n g m = (number_in (first g m) ≡ n) ⊎ (Begins g m × (TwoWords m.mode (word g m) × (number_in (second g m) ≡ n)))

-- the position after the instruction
abbrev pub taken : Given → Machine → Way
taken g m = way_of m.increment (decode m.mode (word g m)) (more g m)

abbrev pub new_x : Given → Machine → Units
new_x g m = changed m.x (taken g m).x

abbrev pub new_y : Given → Machine → Units
new_y g m = changed m.y (taken g m).y

-- 27's condition: the instruction gets as far as its move, and the move leaves the range
abbrev pub MovesOut : Given → Machine → Type 0
MovesOut g m = Continues g m × ((InRange (new_x g m) → ⊥) ⊎ (InRange (new_y g m) → ⊥))

-- a coordinate moved by so many units is out of range
abbrev pub Beyond : Units → Units → Type 0
Beyond u d = ((u.0 +ℤ d.0) <ℤ negsuc 4095) ⊎ (pos 4095 <ℤ (u.0 +ℤ d.0))

-- a status A that stops, and the latch as it stands after it
abbrev pub Stops : ℕ → Type 0
Stops w = On 15 w × ((code w ≡ 14) × On 10 w)

abbrev pub Bit : Bool → ℕ → ℕ → Type 0
Bit true k w = On k w
Bit false k w = Off k w

abbrev pub LatchIs : Bool → Machine → ℕ → Type 0
LatchIs b m w = (On 9 w × Bit b 8 w) ⊎ (Off 9 w × (m.latch ≡ b))

-- the status of a stop: 2 where the latch is then on, 1 where it is off
abbrev pub stop_number : Bool → ℕ
stop_number true = 2
stop_number false = 1
