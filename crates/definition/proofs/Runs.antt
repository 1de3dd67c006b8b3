-- Runs, computed: what they count, and what they leave in the machine. Whole calls on whole images are in crates/worked/proofs/Computed.antt, since they take longer.
use Prim.Native.Nat.{ℕ, zero, suc}
use mathlib.Core.Bool.{Bool, true, false}
use mathlib.Core.Path.{◌≡◌, refl}
use mathlib.Core.List.{List, [], ◌∷◌}
use lib.ListN.{take, replicate}
use lib.IntN.{ℤ, pos, negsuc}
use Rattle.definition.specs.Image.{left, Left}
use Rattle.definition.specs.Machine.{fresh, with_mode}
use Rattle.definition.specs.Calls.{plain, given, start_call, answered, run_call}
use Rattle.definition.specs.Step.{Given, step}
use Rattle.definition.specs.Run.{nothing, begun, run}
use Rattle.definition.specs.Plot.{ran_line}
use Rattle.definition.specs.declared.Machine.{Machine}
use Rattle.definition.specs.declared.Ran.{Ran}
use Rattle.definition.proofs.Opened.{rules}
use Rattle.definition.proofs.Worked.{file, holding}

-- the program that a manual has typed in by hand: a vector from (0, 0) to units (512, 512), for ever
abbrev pub typed : List ℕ
typed = file (0o114000 ∷ 0 ∷ 0 ∷ 0o110000 ∷ 0o041000 ∷ 0o001000 ∷ 0o160000 ∷ 0 ∷ [])

abbrev pub numbers : Left Ran → List ℤ
numbers l = ran_line l.result

-- the run of a fresh machine; no image is lent, since none of the numbers depends on one
abbrev ran : List ℕ → ℕ → Left Ran
ran f b = answered (run (given (plain f)) b (begun fresh []))

pub typed_twice : numbers (ran typed 10) ≡ pos 0 ∷ pos 10 ∷ pos 16 ∷ pos 514 ∷ pos 0 ∷ pos 512 ∷ pos 512 ∷ []
unfolding rules
typed_twice = refl

-- a store replaces its digit, whatever stood there, and leaves the others of its byte: a point of value 1 on bytes that are full
pub one_digit : take 3 (run (given (plain (file (0o116400 ∷ 0o040012 ∷ 0 ∷ [])))) 2 (begun fresh (replicate 3 255))).image ≡ 255 ∷ 0xF7 ∷ 255 ∷ []
unfolding rules
one_digit = refl

-- a refused instruction is not counted, earlier ones are, and the counter is at its first word
pub not_counted : numbers (ran (file (0o114024 ∷ 0o001050 ∷ 0o000577 ∷ 0o134000 ∷ [])) 9) ≡ pos 24 ∷ pos 2 ∷ pos 3 ∷ pos 0 ∷ pos 6 ∷ pos 552 ∷ pos 383 ∷ []
unfolding rules
not_counted = refl

pub not_counted_pair : numbers (ran (file (0o110000 ∷ 0o040100 ∷ 0o100000 ∷ [])) 9) ≡ pos 26 ∷ pos 1 ∷ pos 1 ∷ pos 0 ∷ pos 2 ∷ pos 0 ∷ pos 0 ∷ []
unfolding rules
not_counted_pair = refl

-- refused at a door, a call leaves all as given and counts nothing
pub turned : run_call (plain typed) fresh (7 ∷ []) 1 ≡ left (record { answer = 11; counts = nothing; machine = fresh }) (7 ∷ [])
unfolding rules
turned = refl

-- ---- every field of the machine, step by step
abbrev flag : Bool → ℤ
flag false = pos 0
flag true = pos 1

-- counter, X, Y, mode, pixel value, write, latch, increment, status
abbrev fields : Machine → List ℤ
fields m = pos m.counter ∷ m.x.0 ∷ m.y.0 ∷ pos m.mode ∷ pos m.value ∷ flag m.write ∷ flag m.latch ∷ pos m.increment ∷ pos m.status ∷ []

unfoldable pub trace : Given → ℕ → Machine → List (List ℤ)
trace g zero m = fields m ∷ []
trace g (suc k) m = fields m ∷ trace g k (step g m).machine

-- mode and value; increment; latch; write off; a long vector; a no-op; a mode that keeps the value; an unlit graph word; an increment that is kept; a status A
-- that does nothing; write on; a jump over two words; write off; a stop
abbrev program : List ℕ
program =
    0o112400 ∷ 0o174107 ∷ 0o171400 ∷ 0o176000 ∷ 0o000005 ∷ 0o020003 ∷ 0o164000 ∷ 0o124000 ∷ 0o000100 ∷ 0o174000 ∷ 0o170000 ∷ 0o176020 ∷ 0o160000 ∷ 30 ∷ 0 ∷ 0o176000 ∷ 0o172000 ∷ []

pub each_step : trace (holding program) 14 fresh
    ≡ (pos 0 ∷ pos 0 ∷ pos 0 ∷ pos 255 ∷ pos 3 ∷ pos 1 ∷ pos 0 ∷ pos 0 ∷ pos 0 ∷ [])
    ∷ (pos 2 ∷ pos 0 ∷ pos 0 ∷ pos 2 ∷ pos 1 ∷ pos 1 ∷ pos 0 ∷ pos 0 ∷ pos 0 ∷ [])
    ∷ (pos 4 ∷ pos 0 ∷ pos 0 ∷ pos 2 ∷ pos 1 ∷ pos 1 ∷ pos 0 ∷ pos 7 ∷ pos 0 ∷ [])
    ∷ (pos 6 ∷ pos 0 ∷ pos 0 ∷ pos 2 ∷ pos 1 ∷ pos 1 ∷ pos 1 ∷ pos 7 ∷ pos 0 ∷ [])
    ∷ (pos 8 ∷ pos 0 ∷ pos 0 ∷ pos 2 ∷ pos 1 ∷ pos 0 ∷ pos 1 ∷ pos 7 ∷ pos 0 ∷ [])
    ∷ (pos 12 ∷ pos 5 ∷ negsuc 2 ∷ pos 2 ∷ pos 1 ∷ pos 0 ∷ pos 1 ∷ pos 7 ∷ pos 0 ∷ [])
    ∷ (pos 14 ∷ pos 5 ∷ negsuc 2 ∷ pos 2 ∷ pos 1 ∷ pos 0 ∷ pos 1 ∷ pos 7 ∷ pos 0 ∷ [])
    ∷ (pos 16 ∷ pos 5 ∷ negsuc 2 ∷ pos 5 ∷ pos 1 ∷ pos 0 ∷ pos 1 ∷ pos 7 ∷ pos 0 ∷ [])
    ∷ (pos 18 ∷ pos 12 ∷ pos 64 ∷ pos 5 ∷ pos 1 ∷ pos 0 ∷ pos 1 ∷ pos 7 ∷ pos 0 ∷ [])
    ∷ (pos 20 ∷ pos 12 ∷ pos 64 ∷ pos 5 ∷ pos 1 ∷ pos 0 ∷ pos 1 ∷ pos 7 ∷ pos 0 ∷ [])
    ∷ (pos 22 ∷ pos 12 ∷ pos 64 ∷ pos 5 ∷ pos 1 ∷ pos 0 ∷ pos 1 ∷ pos 7 ∷ pos 0 ∷ [])
    ∷ (pos 24 ∷ pos 12 ∷ pos 64 ∷ pos 5 ∷ pos 1 ∷ pos 1 ∷ pos 1 ∷ pos 7 ∷ pos 0 ∷ [])
    ∷ (pos 30 ∷ pos 12 ∷ pos 64 ∷ pos 5 ∷ pos 1 ∷ pos 1 ∷ pos 1 ∷ pos 7 ∷ pos 0 ∷ [])
    ∷ (pos 32 ∷ pos 12 ∷ pos 64 ∷ pos 5 ∷ pos 1 ∷ pos 0 ∷ pos 1 ∷ pos 7 ∷ pos 0 ∷ [])
    ∷ (pos 34 ∷ pos 12 ∷ pos 64 ∷ pos 5 ∷ pos 1 ∷ pos 0 ∷ pos 1 ∷ pos 7 ∷ pos 2 ∷ [])
    ∷ []
unfolding rules trace
each_step = refl

-- a start from there, at an odd address: the counter and the status are set, the rest is kept; refused, all is kept
abbrev worn : Machine
worn = (ran (file program) 14).result.machine

pub started : ((start_call worn 5).answer ∷ (start_call (with_mode worn 7 1) 5).answer ∷ []) ≡ 0 ∷ 16 ∷ []
unfolding rules
started = refl

pub started_fields : (fields (start_call worn 5).machine ∷ fields (start_call (with_mode worn 7 1) 5).machine ∷ [])
    ≡ (pos 5 ∷ pos 12 ∷ pos 64 ∷ pos 5 ∷ pos 1 ∷ pos 0 ∷ pos 1 ∷ pos 7 ∷ pos 0 ∷ [])
    ∷ (pos 34 ∷ pos 12 ∷ pos 64 ∷ pos 7 ∷ pos 1 ∷ pos 0 ∷ pos 1 ∷ pos 7 ∷ pos 2 ∷ [])
    ∷ []
unfolding rules
started_fields = refl
