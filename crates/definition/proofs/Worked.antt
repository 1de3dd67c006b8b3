-- The proved set of document 01's edges: one list, one statement, one proof.
use Prim.Native.Nat.{ℕ, zero, suc}
use mathlib.Core.Bool.{true}
use mathlib.Core.Path.{◌≡◌, refl}
use mathlib.Core.List.{List, [], ◌∷◌, ◌++◌, map}
use lib.ListN.{length, replicate}
use lib.IntN.{ℤ, pos, negsuc}
use Rattle.definition.specs.Choice.{pick}
use Rattle.definition.specs.Units.{units, pixels, pixel, pixels_of}
use Rattle.definition.specs.Image.{square, blank, pixel_at}
use Rattle.definition.specs.Words.{decode}
use Rattle.definition.specs.Vector.{vector}
use Rattle.definition.specs.Machine.{fresh, with_counter, with_position, with_mode, with_increment, with_status}
use Rattle.definition.specs.Step.{Given, item_pixels, step}
use Rattle.definition.specs.Calls.{plain, given, step_call}
use Rattle.definition.specs.declared.Pixels.{Pixels}
use Rattle.definition.specs.declared.Pixel.{Pixel}
use Rattle.definition.specs.declared.Machine.{Machine}
use Rattle.definition.specs.declared.Ran.{Ran}
use Rattle.definition.specs.declared.Instruction.{Instruction}
use Rattle.definition.specs.declared.Instruction.TheVariants.{Does, Draws}
use Rattle.definition.specs.declared.Item.TheVariants.{ShortVector}
use Rattle.definition.proofs.Opened.{rules}

-- ---- files and machines for examples
-- a file of one segment
abbrev pub file : List ℕ → List ℕ
file words = 1 ∷ 1 ∷ 4 ∷ length words ∷ words

abbrev pub holding : List ℕ → Given
holding words = given (plain (file words))

-- a file of eight segments, each of them the same 4,096 words
abbrev pub eight_times : List ℕ → List ℕ
eight_times words = 1 ∷ 8 ∷ 18 ∷ 4096 ∷ 18 ∷ 4096 ∷ 18 ∷ 4096 ∷ 18 ∷ 4096 ∷ 18 ∷ 4096 ∷ 18 ∷ 4096 ∷ 18 ∷ 4096 ∷ 18 ∷ 4096 ∷ words

-- a fresh machine in a mode at a position
abbrev pub in_mode : ℕ → ℤ → ℤ → Machine
in_mode k x y = with_mode (with_position fresh (units x) (units y)) k 3

-- a machine at another counter and position
abbrev pub to : Machine → ℕ → ℤ → ℤ → Machine
to m c x y = with_counter (with_position m (units x) (units y)) c

-- the pixel of units x and y
abbrev pub of : ℤ → ℤ → Pixel
of x y = pixel_at square (units x) (units y)

abbrev pub dot : ℕ → ℕ → Pixel
dot x y = pixel (pos x) (pos y)

-- ---- cases
-- the machine after k steps, and the pixels that they store
unfoldable pub after_steps : Given → ℕ → Machine → Machine
after_steps g zero m = m
after_steps g (suc k) m = after_steps g k (step g m).machine

unfoldable pub stored : Given → ℕ → Machine → List Pixel
stored g zero m = []
stored g (suc k) m = (step g m).pixels ++ stored g k (step g m).machine

-- the pixels that an instruction of one word lights, in the field or not
abbrev pub lighted : Given → Machine → Instruction → List Pixel
lighted g m (Does o) = []
lighted g m (Draws lit it) = pick lit (item_pixels g m it 0) []

pub data Case : Type 0 where
  halves : ℤ → ℤ → Case  -- a unit, its pixel
  between : Pixel → Pixel → List Pixel → Case  -- two ends, the pixels of the vector
  reads : ℕ → ℕ → Instruction → Case  -- a mode, a word, the instruction
  lights : Machine → ℕ → List Pixel → Case  -- a machine, a word of an item, the pixels that it lights
  steps : Given → ℕ → Machine → Machine → List Pixel → Case  -- so many steps of a machine, the machine that they leave, what they store
  calls : List ℕ → Machine → ℕ → ℕ → Case  -- a step call on a blank image, its answer, its count of stores

-- what the rules give for a case, and what the case says
pub data Seen : Type 0 where
  halved : Pixels → Seen
  drawn : List Pixel → Seen
  read : Instruction → Seen
  left : Machine → List Pixel → Seen
  answers : ℕ → ℕ → Seen

abbrev pub answering : Ran → Seen
answering r = answers r.answer r.counts.stores

abbrev pub given_by_rules : Case → Seen
given_by_rules (halves u p) = halved (pixels_of 2 (units u))
given_by_rules (between a b ps) = drawn (vector a b)
given_by_rules (reads mode w i) = read (decode mode w)
given_by_rules (lights m w ps) = drawn (lighted (given (plain [])) m (decode m.mode w))
given_by_rules (steps g k m m' ps) = left (after_steps g k m) (stored g k m)
given_by_rules (calls f m answer stores) = answering (step_call (plain f) m blank).result

abbrev pub said : Case → Seen
said (halves u p) = halved (pixels p)
said (between a b ps) = drawn ps
said (reads mode w i) = read i
said (lights m w ps) = drawn ps
said (steps g k m m' ps) = left m' ps
said (calls f m answer stores) = answers answer stores

abbrev pub Hold : List Case → Type 0
Hold cs = map given_by_rules cs ≡ map said cs

unfoldable pub p_set : List Case
p_set =
    halves (negsuc 2) (negsuc 1)
    ∷ halves (negsuc 0) (negsuc 0)
    ∷ halves (pos 0) (pos 0)
    ∷ halves (pos 1) (pos 0)
    ∷ halves (pos 1023) (pos 511)
    ∷ between (dot 0 0) (dot 2 1) (dot 0 0 ∷ dot 1 1 ∷ dot 2 1 ∷ [])
    ∷ between (dot 2 1) (dot 0 0) (dot 2 1 ∷ dot 1 1 ∷ dot 0 0 ∷ [])
    ∷ steps (holding (0o040000 ∷ [])) 1 (in_mode 1 (pos 6) (pos 8)) (to (in_mode 1 (pos 6) (pos 8)) 2 (pos 6) (pos 8)) (dot 3 4 ∷ [])
    ∷ reads 1 0o041303 (Draws true (ShortVector (units (pos 5)) (units (negsuc 2))))
    ∷ steps (holding (0o020100 ∷ [])) 1 (in_mode 1 (pos 6) (pos 8)) (to (in_mode 1 (pos 6) (pos 8)) 2 (pos 6) (pos 8)) []
    ∷ steps (given (plain (eight_times (replicate 4096 0o164000)))) 1 (with_counter fresh 65534) fresh []
    ∷ steps (holding (0o040100 ∷ 0o040104 ∷ [])) 2 (with_increment (in_mode 5 (pos 10) (pos 0)) 4)
    (to (with_increment (in_mode 5 (pos 10) (pos 0)) 4) 4 (pos 18) (pos 68)) (of (pos 10) (pos 64) ∷ of (pos 14) (pos 68) ∷ [])
    ∷ steps (holding (0o001777 ∷ 0 ∷ [])) 1 (in_mode 2 (pos 3072) (pos 0)) (to (in_mode 2 (pos 3072) (pos 0)) 4 (pos 4095) (pos 0)) []
    ∷ calls (file (0o001777 ∷ 0 ∷ [])) (in_mode 2 (pos 3072) (pos 0)) 0 0
    ∷ steps (holding (0o001777 ∷ 0 ∷ [])) 1 (in_mode 2 (pos 3073) (pos 0)) (with_status (in_mode 2 (pos 3073) (pos 0)) 27) []
    ∷ calls (file (0o001777 ∷ 0 ∷ [])) (in_mode 2 (pos 3073) (pos 0)) 27 0
    ∷ steps (holding (0o040601 ∷ [])) 1 (in_mode 1 (pos 1) (pos 1)) (to (in_mode 1 (pos 1) (pos 1)) 2 (pos 4) (pos 2)) (dot 0 0 ∷ dot 1 1 ∷ dot 2 1 ∷ [])
    ∷ between (dot 510 0) (dot 514 0) (dot 510 0 ∷ dot 511 0 ∷ dot 512 0 ∷ dot 513 0 ∷ dot 514 0 ∷ [])
    ∷ lights (in_mode 1 (pos 1020) (pos 0)) 0o042000 (dot 510 0 ∷ dot 511 0 ∷ dot 512 0 ∷ dot 513 0 ∷ dot 514 0 ∷ [])
    ∷ steps (holding (0o042000 ∷ [])) 1 (in_mode 1 (pos 1020) (pos 0)) (to (in_mode 1 (pos 1020) (pos 0)) 2 (pos 1028) (pos 0)) (dot 510 0 ∷ dot 511 0 ∷ [])
    ∷ calls (file (0o042000 ∷ [])) (in_mode 1 (pos 1020) (pos 0)) 0 2
    ∷ []

pub all_p : Hold p_set
unfolding rules p_set after_steps stored
all_p = refl
