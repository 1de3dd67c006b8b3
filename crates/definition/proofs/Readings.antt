-- What the proved set leaves open: each case refuses a reading that looks right.
use Prim.Native.Nat.{ℕ}
use mathlib.Core.Bool.{true, false}
use mathlib.Core.Path.{refl}
use mathlib.Core.List.{List, [], ◌∷◌}
use lib.ListN.{replicate}
use lib.IntN.{pos, negsuc}
use Rattle.definition.specs.Units.{pixel}
use Rattle.definition.specs.Machine.{fresh, with_counter, with_mode, with_write, with_latch, with_increment, with_status}
use Rattle.definition.specs.Calls.{plain, given}
use Rattle.definition.specs.declared.Machine.{Machine}
use Rattle.definition.proofs.Opened.{rules}
use Rattle.definition.proofs.Worked.{Case, between, steps, Hold, holding, eight_times, in_mode, to, of, dot, after_steps, stored}

-- a machine in a mode at (10, 10) with increment 4
abbrev graphing : ℕ → Machine
graphing k = with_increment (in_mode k (pos 10) (pos 10)) 4

unfoldable pub graphs : List Case
graphs =
    -- graph X and graph Y: plotted where the machine stands, then one increment on
    steps (holding (0o040100 ∷ 0o040104 ∷ [])) 2 (graphing 4) (to (graphing 4) 4 (pos 68) (pos 18)) (of (pos 64) (pos 10) ∷ of (pos 68) (pos 14) ∷ [])
    ∷ steps (holding (0o040100 ∷ 0o040104 ∷ [])) 2 (graphing 5) (to (graphing 5) 4 (pos 18) (pos 68)) (of (pos 10) (pos 64) ∷ of (pos 14) (pos 68) ∷ [])
    -- an unlit graph word, and a lit one while write is off, store nothing and move all the same
    ∷ steps (holding (0o000100 ∷ [])) 1 (graphing 5) (to (graphing 5) 2 (pos 14) (pos 64)) []
    ∷ steps (holding (0o040100 ∷ [])) 1 (with_write (graphing 5) false) (to (with_write (graphing 5) false) 2 (pos 14) (pos 64)) []
    -- 27 asks for the position after the step: refused, the point is not plotted; increment 0 passes
    ∷ steps (holding (0o040100 ∷ [])) 1 (to (graphing 5) 0 (pos 4092) (pos 0)) (with_status (to (graphing 5) 0 (pos 4092) (pos 0)) 27) []
    ∷ steps (holding (0o040100 ∷ [])) 1 (to (graphing 5) 0 (pos 4091) (pos 0)) (to (graphing 5) 2 (pos 4095) (pos 64)) []
    ∷ steps (holding (0o040100 ∷ [])) 1 (to (graphing 4) 0 (pos 0) (pos 4092)) (with_status (to (graphing 4) 0 (pos 0) (pos 4092)) 27) []
    ∷ steps (holding (0o040100 ∷ [])) 1 (in_mode 5 (pos 4095) (pos 0)) (to (in_mode 5 (pos 4095) (pos 0)) 2 (pos 4095) (pos 64)) []
    ∷ []

pub all_graphs : Hold graphs
unfolding rules graphs after_steps stored
all_graphs = refl

unfoldable pub moves : List Case
moves =
    -- ten vectors of +1 reach unit 10, and the pixels are those of the units on the way
    steps (holding (replicate 10 0o040200)) 10 (in_mode 1 (pos 0) (pos 0)) (to (in_mode 1 (pos 0) (pos 0)) 20 (pos 10) (pos 0))
    (dot 0 0 ∷ dot 0 0 ∷ dot 1 0 ∷ dot 1 0 ∷ dot 1 0 ∷ dot 2 0 ∷ dot 2 0 ∷ dot 2 0 ∷ dot 3 0 ∷ dot 3 0 ∷ dot 3 0 ∷ dot 4 0 ∷ dot 4 0 ∷ dot 4 0 ∷ dot 5 0 ∷ [])
    -- left of and below 4,095 and -4,096: both sides of 27 on both axes
    ∷ steps (holding (0o000200 ∷ [])) 1 (in_mode 6 (pos 4095) (pos 0)) (with_status (in_mode 6 (pos 4095) (pos 0)) 27) []
    ∷ steps (holding (0o020200 ∷ [])) 1 (in_mode 1 (negsuc 4094) (pos 0)) (to (in_mode 1 (negsuc 4094) (pos 0)) 2 (negsuc 4095) (pos 0)) []
    ∷ steps (holding (0o020200 ∷ [])) 1 (in_mode 1 (negsuc 4095) (pos 0)) (with_status (in_mode 1 (negsuc 4095) (pos 0)) 27) []
    ∷ steps (holding (0o000001 ∷ [])) 1 (in_mode 1 (pos 0) (pos 4095)) (with_status (in_mode 1 (pos 0) (pos 4095)) 27) []
    ∷ steps (holding (0o000101 ∷ [])) 1 (in_mode 1 (pos 0) (negsuc 4095)) (with_status (in_mode 1 (pos 0) (negsuc 4095)) 27) []
    -- a relative point plots its end alone; an absolute one sets outright
    ∷ steps (holding (0o041004 ∷ [])) 1 (in_mode 6 (pos 6) (pos 8)) (to (in_mode 6 (pos 6) (pos 8)) 2 (pos 10) (pos 12)) (dot 5 6 ∷ [])
    ∷ steps (holding (0o040020 ∷ 0o000040 ∷ [])) 1 (in_mode 3 (pos 6) (pos 8)) (to (in_mode 3 (pos 6) (pos 8)) 4 (pos 16) (pos 32)) (dot 8 16 ∷ [])
    -- lit while write is off
    ∷ steps (holding (0o040601 ∷ [])) 1 (with_write (in_mode 1 (pos 1) (pos 1)) false) (to (with_write (in_mode 1 (pos 1) (pos 1)) false) 2 (pos 4) (pos 2)) []
    -- a vector that leaves the field is the whole vector's pixels and not one drawn afresh from the cut
    ∷ steps (holding (0o061004 ∷ [])) 1 (in_mode 1 (pos 6) (pos 0)) (to (in_mode 1 (pos 6) (pos 0)) 2 (pos 2) (pos 4)) (dot 3 0 ∷ dot 2 1 ∷ dot 1 2 ∷ [])
    ∷ steps (holding (0o062002 ∷ [])) 1 (in_mode 1 (pos 4) (pos 0)) (to (in_mode 1 (pos 4) (pos 0)) 2 (negsuc 3) (pos 2)) (dot 2 0 ∷ dot 1 0 ∷ dot 0 1 ∷ [])
    ∷ []

pub all_moves : Hold moves
unfolding rules moves after_steps stored
all_moves = refl

-- vectors by their pixels: a half goes up whichever way the pen goes, on either axis and below zero

unfoldable pub vectors : List Case
vectors =
    between (dot 0 0) (dot 1 2) (dot 0 0 ∷ dot 1 1 ∷ dot 1 2 ∷ [])
    ∷ between (dot 1 2) (dot 0 0) (dot 1 2 ∷ dot 1 1 ∷ dot 0 0 ∷ [])
    ∷ between (dot 0 1) (dot 2 0) (dot 0 1 ∷ dot 1 1 ∷ dot 2 0 ∷ [])
    ∷ between (dot 2 0) (dot 0 1) (dot 2 0 ∷ dot 1 1 ∷ dot 0 1 ∷ [])
    ∷ between (pixel (pos 0) (pos 0)) (pixel (negsuc 3) (negsuc 1)) (pixel (pos 0) (pos 0) ∷ pixel (negsuc 0) (pos 0) ∷ pixel (negsuc 1) (negsuc 0) ∷ pixel (negsuc 2) (negsuc 0) ∷ pixel (negsuc 3) (negsuc 1) ∷ [])
    ∷ between (dot 7 7) (dot 7 7) (dot 7 7 ∷ [])
    ∷ between (dot 0 0) (dot 3 1) (dot 0 0 ∷ dot 1 0 ∷ dot 2 1 ∷ dot 3 1 ∷ [])
    ∷ []

pub all_vectors : Hold vectors
unfolding rules vectors
all_vectors = refl

unfoldable pub orders : List Case
orders =
    -- a jump takes any value, bit 15 set or odd; it is the next fetch that is refused
    steps (holding (0o160000 ∷ 0o100001 ∷ [])) 1 fresh (with_counter fresh 0o100001) []
    -- the latch is loaded before the stop goes by it
    ∷ steps (holding (0o173400 ∷ [])) 1 fresh (with_status (with_latch (with_counter fresh 2) true) 2) []
    ∷ steps (holding (0o173000 ∷ [])) 1 (with_latch fresh true) (with_status (with_counter fresh 2) 1) []
    ∷ steps (holding (0o172000 ∷ [])) 1 (with_latch fresh true) (with_status (with_latch (with_counter fresh 2) true) 2) []
    ∷ steps (holding (0o171400 ∷ [])) 1 fresh (with_latch (with_counter fresh 2) true) []
    -- a mode without bit 10 keeps the pixel value; the increment without bit 6 is kept; write of another memory is not ours
    ∷ steps (holding (0o111000 ∷ [])) 1 fresh (with_counter (with_mode fresh 2 3) 2) []
    ∷ steps (holding (0o112400 ∷ [])) 1 fresh (with_counter (with_mode fresh 2 1) 2) []
    ∷ steps (holding (0o174150 ∷ [])) 1 fresh (with_counter (with_increment fresh 40) 2) []
    ∷ steps (holding (0o174050 ∷ [])) 1 (with_increment fresh 7) (with_counter (with_increment fresh 7) 2) []
    ∷ steps (holding (0o176000 ∷ [])) 1 fresh (with_counter (with_write fresh false) 2) []
    ∷ steps (holding (0o176400 ∷ [])) 1 fresh (with_counter fresh 2) []
    -- two segments, the second before the first in the file: each word by its own segment's offset
    ∷ steps (given (plain (1 ∷ 2 ∷ 8 ∷ 2 ∷ 6 ∷ 2 ∷ 0o164000 ∷ 0o171400 ∷ 0o164000 ∷ 0o111000 ∷ []))) 1 (with_counter fresh 2) (with_counter (with_mode fresh 2 3) 4) []
    ∷ steps (given (plain (1 ∷ 2 ∷ 8 ∷ 2 ∷ 6 ∷ 2 ∷ 0o164000 ∷ 0o171400 ∷ 0o164000 ∷ 0o111000 ∷ []))) 1 (with_counter fresh 8194) (with_latch (with_counter fresh 8196) true) []
    -- two words across the end of the address space
    ∷ steps (given (plain (eight_times (replicate 4096 0)))) 1 (to (in_mode 2 (pos 0) (pos 0)) 65534 (pos 6) (pos 8)) (to (in_mode 2 (pos 0) (pos 0)) 2 (pos 6) (pos 8)) []
    ∷ []

pub all_orders : Hold orders
unfolding rules orders after_steps stored
all_orders = refl
