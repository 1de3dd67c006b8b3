-- Graph words, one after the other: where each should stand, and the position after them.
use Rattle.std.specs.Prelude.{ℕ, suc, ◌*◌, List, [], ◌∷◌, ◌≡◌, length, get_or, ℤ, pos, negsuc, ◌+ℤ◌, ◌≤ℤ◌, Ok}
use Rattle.definition.specs.Choice.{pick}
use Rattle.definition.specs.Units.{units}
use Rattle.definition.specs.Image.{Shape, pixel_at, inside, stores}
use Rattle.definition.specs.File.{Memory}
use Rattle.definition.specs.Words.{bit, coordinate}
use Rattle.definition.specs.Machine.{with_counter, with_position, next, past, shape_of, pen_of}
use Rattle.definition.specs.Step.{Given}
use Rattle.definition.specs.Run.{summed, State}
use Rattle.definition.specs.declared.Units.{Units}
use Rattle.definition.specs.declared.Pixel.{Pixel}
use Rattle.definition.specs.declared.Machine.{Machine}
use Rattle.demands.specs.Conditions.{On, Off}
use Rattle.demands.specs.With.{with_machine, with_image, with_counts}

-- the axis that is stepped along: X by the words of mode 5, Y by those of mode 4
pub data Axis : Type 0 where
  AlongX : Axis
  AlongY : Axis

abbrev pub mode_of : Axis → ℕ
mode_of AlongX = 5
mode_of AlongY = 4

-- the coordinate on that axis, and the other one, which the words set
abbrev pub stepped : Axis → Machine → Units
stepped AlongX m = m.x
stepped AlongY m = m.y

abbrev pub valued : Axis → Machine → Units
valued AlongX m = m.y
valued AlongY m = m.x

abbrev pub placed : Axis → Machine → Units → Units → Machine
placed AlongX m u v = with_position m u v
placed AlongY m u v = with_position m v u

abbrev pub pixel_on : Axis → Shape → Units → Units → Pixel
pixel_on AlongX h u v = pixel_at h u v
pixel_on AlongY h u v = pixel_at h v u

-- the words stand in the memory one after the other, from an address on
abbrev pub Lies : Memory → ℕ → List ℕ → Type 0
Lies f a [] = Unit {0}
Lies f a (w ∷ ws) = (f a ≡ Ok w) × Lies f (next a) ws

-- data words: bit 15 clear. Those with bit 14 set are lit, the others are blank
abbrev pub AllData : List ℕ → Type 0
AllData [] = Unit {0}
AllData (w ∷ ws) = Off 15 w × AllData ws

abbrev pub AllLit : List ℕ → Type 0
AllLit [] = Unit {0}
AllLit (w ∷ ws) = On 14 w × AllLit ws

-- the place of each word, lit or blank, from word k on: word k stands k increments from the start, at its own value
abbrev pub weeks : Axis → Shape → ℤ → ℕ → ℕ → List ℕ → List Pixel
weeks axis h start g k [] = []
weeks axis h start g k (w ∷ ws) = pixel_on axis h (units (start +ℤ pos (k * g))) (coordinate w) ∷ weeks axis h start g (suc k) ws

-- of the places of words, those of the lit ones
abbrev pub of_lit : List ℕ → List Pixel → List Pixel
of_lit [] ps = []
of_lit (w ∷ ws) [] = []
of_lit (w ∷ ws) (p ∷ ps) = pick (bit 14 w) (p ∷ of_lit ws ps) (of_lit ws ps)

-- the place of word k of those that a machine stands before
abbrev pub week_at : Axis → Machine → List ℕ → ℕ → Pixel
week_at axis m ws k = pixel_on axis (shape_of m) (units ((stepped axis m).0 +ℤ pos (k * m.increment))) (coordinate (get_or ws k 0))

-- the value of the last word
abbrev pub last_or : Units → List ℕ → Units
last_or v [] = v
last_or v (w ∷ ws) = last_or (coordinate w) ws

-- of lit pixels, those that are stored
abbrev pub shown : Machine → List Pixel → List Pixel
shown m ps = pick m.write (inside (shape_of m) ps) []

-- a state after n words of one step each that lit these pixels, at another counter and position
abbrev pub went : Axis → State → ℕ → Units → Units → ℕ → List Pixel → State
went axis s a u v n ps =
    let m = placed axis (with_counter s.machine a) u v in
    let im = stores (shape_of s.machine) (pen_of s.machine) s.image (shown s.machine ps) in
    with_counts (with_image (with_machine s m) im) (summed s.counts (record { steps = n; words = n; stores = length (shown s.machine ps) }))

-- a running machine in a graph mode stands before data words, lit or blank, with room for every step
pub record Ready (axis : Axis) (g : Given) (s : State) (ws : List ℕ) : Type 0 where
  pub running : s.machine.status ≡ 0
  pub mode : s.machine.mode ≡ mode_of axis
  pub words : Lies g.memory s.machine.counter ws
  pub data_words : AllData ws
  pub low : negsuc 4095 ≤ℤ (stepped axis s.machine).0
  pub room : ((stepped axis s.machine).0 +ℤ pos (length ws * s.machine.increment)) ≤ℤ pos 4095

-- and what a run of as many steps as there are words leaves
abbrev pub plotted : Axis → State → List ℕ → State
plotted axis s ws =
    went axis s (past (length ws) s.machine.counter) (units ((stepped axis s.machine).0 +ℤ pos (length ws * s.machine.increment))) (last_or (valued axis s.machine) ws) (length ws)
    (of_lit ws (weeks axis (shape_of s.machine) (stepped axis s.machine).0 s.machine.increment 0 ws))
