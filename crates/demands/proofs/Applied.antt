-- The words of the statements applied to examples: what they should mean, computed.
use mathlib.Core.Bool.{true, false}
use Prim.Native.Nat.{ℕ}
use mathlib.Core.List.{List, [], ◌∷◌, map}
use mathlib.Core.Path.{◌≡◌, refl}
use lib.IntN.{pos, negsuc}
use Rattle.whole.specs.Parts.{whole}
use Rattle.definition.specs.Units.{units}
use Rattle.definition.specs.Image.{square}
use Rattle.definition.specs.Machine.{fresh, with_mode}
use Rattle.definition.specs.Run.{State, begun}
use Rattle.definition.specs.Calls.{lending}
use Rattle.definition.specs.declared.Pixel.{Pixel}
use Rattle.definition.specs.Step.Change.{Stay, Set, Move}
use Rattle.definition.specs.declared.Order.TheVariants.{Increment}
use Rattle.definition.specs.declared.Item.TheVariants.{GraphY, ShortVector, Characters}
use Rattle.definition.specs.declared.Instruction.TheVariants.{Does, Draws}
use Rattle.definition.proofs.Opened.{rules}
use Rattle.definition.proofs.Worked.{holding, in_mode, dot}
use Rattle.demands.specs.Conditions.{InRange}
use Rattle.demands.specs.Exact.{exact}
use Rattle.demands.specs.Cells.{characters}
use Rattle.demands.specs.Graphs.{AlongX, AlongY, weeks, of_lit}
use Rattle.demands.specs.Ledger.{Entry, completed, changes, settled}
use Rattle.demands.specs.Strokes.{Stroke, strokes, ledger_words, standing}
use Rattle.demands.specs.With.{with_file}

-- two graph words from unit 10 with increment 4: the first at 10 itself
pub two_weeks : weeks AlongX square (pos 10) 4 0 (0o040100 ∷ 0o040104 ∷ []) ≡ dot 5 32 ∷ dot 7 34 ∷ []
unfolding rules
two_weeks = refl

pub two_rows : weeks AlongY square (pos 10) 4 0 (0o040100 ∷ 0o040104 ∷ []) ≡ dot 32 5 ∷ dot 34 7 ∷ []
unfolding rules
two_rows = refl

-- of three words the second is blank: it lights nothing, and is stepped over
abbrev three : List ℕ
three = 0o040100 ∷ 0o000102 ∷ 0o040104 ∷ []

pub blank_week : of_lit three (weeks AlongX square (pos 10) 4 0 three) ≡ dot 5 32 ∷ dot 9 34 ∷ []
unfolding rules
blank_week = refl

-- the strokes of a lit vector, a blank one and a lit one, of 4 units across each, and a stop; and the words of these instructions
abbrev dashes : List ℕ
dashes = 0o041000 ∷ 0o001000 ∷ 0o041000 ∷ 0o172000 ∷ []

abbrev drawing : State
drawing = begun (in_mode 1 (pos 0) (pos 0)) []

pub dashed : map (λ (t : Stroke). t.pixel) (strokes (holding dashes) 9 drawing) ≡ dot 0 0 ∷ dot 1 0 ∷ dot 2 0 ∷ dot 4 0 ∷ dot 5 0 ∷ dot 6 0 ∷ []
unfolding rules strokes completed
dashed = refl

pub dashed_words : ledger_words (completed (holding dashes) 9 drawing) ≡ 4
unfolding rules completed
dashed_words = refl

-- of strokes by 3 and then by 2 at one pixel, the last one stands; the one by 1 is elsewhere
abbrev by : ℕ → Pixel → Stroke
by v p = record { machine = with_mode fresh 1 v; pixel = p }

pub last_one : standing (dot 1 1) 0 (by 3 (dot 1 1) ∷ by 2 (dot 1 1) ∷ by 1 (dot 2 1) ∷ []) ≡ 2
last_one = refl

-- moves before the last outright setting are forgotten, those after it are summed; with no setting all of them are
pub set_and_moved : (settled (units (pos 3)) (Move (units (pos 2)) ∷ Set (units (pos 10)) ∷ Move (units (negsuc 2)) ∷ Stay ∷ Move (units (pos 1)) ∷ []) ∷ settled (units (pos 3)) (Move (units (pos 2)) ∷ Stay ∷ Move (units (negsuc 0)) ∷ []) ∷ [])
    ≡ units (pos 8) ∷ units (pos 4) ∷ []
set_and_moved = refl

-- a graph word moves X by the increment that is then in force, and two characters move it by 32
abbrev entries : List Entry
entries =
    record { what = Draws true (GraphY (units (pos 9))); second = 0 }
    ∷ record { what = Does (Increment (record { sets = true; increment = 7 })); second = 0 }
    ∷ record { what = Draws true (GraphY (units (pos 9))); second = 0 }
    ∷ record { what = Draws false (ShortVector (units (negsuc 1)) (units (pos 0))); second = 0 }
    ∷ record { what = Draws true (Characters 65 66); second = 0 }
    ∷ []

pub increments : changes (λ w. w.x) 4 entries ≡ Move (units (pos 4)) ∷ Stay ∷ Move (units (pos 7)) ∷ Move (units (negsuc 1)) ∷ Move (units (pos 32)) ∷ []
increments = refl

-- both ends of a coordinate's range
pub lowest : InRange (units (negsuc 4095))
lowest = record { low = omega whole; high = omega whole }

pub highest : InRange (units (pos 4095))
highest = record { low = omega whole; high = omega whole }

-- half way from unit 0 to unit 7 in 2 steps: n times the exact point
pub half_way : exact (pos 0) (pos 7) 2 1 ≡ pos 7
half_way = refl

-- the cells of codes 32 and 33 by the pixels (5, 5) and (13, 5): the top row first, in it the highest bit leftmost
pub two_cells : characters (0x81 ∷ 0 ∷ 0 ∷ 0 ∷ 0 ∷ 0 ∷ 0 ∷ 0x01 ∷ 0x40 ∷ 0 ∷ 0 ∷ 0 ∷ 0 ∷ 0 ∷ 0 ∷ 0 ∷ []) (in_mode 0 (pos 10) (pos 10)) 0o020440
    ≡ dot 5 12 ∷ dot 12 12 ∷ dot 12 5 ∷ dot 14 12 ∷ []
unfolding rules
two_cells = refl

-- another file is lent in the place of the one that was, with the same set
pub another_file : with_file (lending (1 ∷ []) (7 ∷ [])) (2 ∷ 3 ∷ []) ≡ lending (2 ∷ 3 ∷ []) (7 ∷ [])
another_file = refl
