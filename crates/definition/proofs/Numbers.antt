-- Every answer of document 01's table, and the order where two could be given.
use Prim.Native.Nat.{ℕ, ◌+◌, ◌*◌}
use mathlib.Core.Path.{◌≡◌, refl}
use mathlib.Core.List.{List, [], ◌∷◌}
use lib.ListN.{replicate}
use lib.IntN.{pos, negsuc}
use Rattle.definition.specs.Units.{pixel}
use Rattle.definition.specs.Image.{square, blank}
use Rattle.definition.specs.Machine.{fresh, with_counter, with_mode, with_increment, with_status}
use Rattle.definition.specs.Run.{begun, run}
use Rattle.definition.specs.Calls.{lending, plain, given, check_call, start_call, answered, run_call, step_call, read_call}
use Rattle.definition.specs.declared.Machine.{Machine}
use Rattle.definition.proofs.Opened.{rules}
use Rattle.definition.proofs.Worked.{file, in_mode}
use Rattle.definition.proofs.Runs.{typed}

-- the answer of a run of a file from a machine, and of a file of one segment; no image is lent, since no answer of a step depends on one
abbrev ends : List ℕ → Machine → ℕ → ℕ
ends f m b = (answered (run (given (plain f)) b (begun m []))).result.answer

abbrev pub answer : List ℕ → Machine → ℕ
answer words m = ends (file words) m 9

-- the answer of a run of the typed program
abbrev pub door : Machine → List ℕ → ℕ → ℕ
door m im b = (run_call (plain typed) m im b).result.answer

pub runs :
    (answer (0o164000 ∷ 0o160000 ∷ 0 ∷ []) fresh ∷ answer (0o172000 ∷ []) fresh ∷ answer (0o171400 ∷ 0o172000 ∷ []) fresh ∷ answer (0o171400 ∷ 0o173000 ∷ []) fresh
    ∷ answer [] (with_counter fresh 1) ∷ answer [] (with_counter fresh 8192) ∷ answer [] fresh ∷ answer (0o164000 ∷ []) fresh
    ∷ answer (0o134000 ∷ []) fresh ∷ answer (0o154000 ∷ []) fresh
    ∷ answer (0o040000 ∷ []) fresh
    ∷ answer (0o040000 ∷ 0o100000 ∷ []) (with_mode fresh 2 3) ∷ answer (0o040000 ∷ 0o100000 ∷ []) (with_mode fresh 3 3)
    ∷ answer (0o017600 ∷ []) (in_mode 1 (pos 4095) (pos 0)) ∷ answer (0o000077 ∷ []) (in_mode 6 (pos 0) (pos 4095)) ∷ [])
    ≡ 0 ∷ 1 ∷ 2 ∷ 1 ∷ 21 ∷ 22 ∷ 23 ∷ 23 ∷ 24 ∷ 24 ∷ 25 ∷ 26 ∷ 26 ∷ 27 ∷ 27 ∷ []
unfolding rules
runs = refl

-- a second fetch is refused as the first is; a pair cut by the end of its segment goes on in the next one
pub second_fetches :
    (answer (0o160000 ∷ []) fresh ∷ answer (0o000000 ∷ []) (with_mode fresh 2 3) ∷ answer (0o160000 ∷ 0o100000 ∷ []) fresh
    ∷ ends (1 ∷ 1 ∷ 4 ∷ 4096 ∷ replicate 4096 0o160000) (with_counter fresh 8190) 1
    ∷ ends (1 ∷ 2 ∷ 6 ∷ 4096 ∷ 6 ∷ 1 ∷ replicate 4096 0o160000) (with_counter fresh 8190) 1 ∷ [])
    ≡ 23 ∷ 23 ∷ 22 ∷ 22 ∷ 0 ∷ []
unfolding rules
second_fetches = refl

-- 32, both sides of its range in both halves, bit 7 set or clear; a mode set to 0 is not refused, with or without a value
abbrev codes : ℕ → ℕ → ℕ
codes first second = 256 * second + first

abbrev drawn : ℕ → ℕ
drawn w = answer (w ∷ 0o172000 ∷ []) (with_mode fresh 0 3)

pub characters :
    (drawn (codes 31 65) ∷ drawn (codes 32 65) ∷ drawn (codes 126 65) ∷ drawn (codes 127 65) ∷ drawn (codes 65 31) ∷ drawn (codes 65 32) ∷ drawn (codes 65 126) ∷ drawn (codes 65 127)
    ∷ drawn 0 ∷ drawn (codes 65 0) ∷ drawn (codes 0 65) ∷ drawn (codes 65 66 + 128) ∷ drawn (codes 31 66 + 128) ∷ drawn 0o100000
    ∷ answer (0o100000 ∷ 0o020040 ∷ 0o172000 ∷ []) fresh ∷ answer (0o103777 ∷ 0o020040 ∷ 0o172000 ∷ []) fresh ∷ answer (0o003400 ∷ []) (with_mode fresh 1 3) ∷ [])
    ≡ 32 ∷ 1 ∷ 1 ∷ 32 ∷ 32 ∷ 1 ∷ 1 ∷ 32 ∷ 32 ∷ 32 ∷ 32 ∷ 1 ∷ 32 ∷ 1 ∷ 1 ∷ 1 ∷ 23 ∷ []
unfolding rules
characters = refl

-- within a step: 21 before 22; 22 before 23; 24 or 25 before the second fetch; the second fetch before 26; 26 before 27; 32 before 27
pub step_order :
    (answer [] (with_counter fresh 65535) ∷ answer [] (with_counter fresh 65534)
    ∷ answer (0o134000 ∷ []) (with_mode fresh 2 3) ∷ answer (0o001777 ∷ []) fresh
    ∷ answer (0o001777 ∷ []) (in_mode 2 (pos 3073) (pos 0)) ∷ answer (0o001777 ∷ 0o100000 ∷ []) (in_mode 2 (pos 3073) (pos 0)) ∷ answer (0o001777 ∷ 0 ∷ []) (in_mode 2 (pos 3073) (pos 0))
    ∷ answer (codes 65 0 ∷ []) (in_mode 0 (pos 4095) (pos 0)) ∷ answer (codes 65 66 ∷ []) (in_mode 0 (pos 4064) (pos 0)) ∷ answer (codes 65 66 ∷ 0o172000 ∷ []) (in_mode 0 (pos 4063) (pos 4095)) ∷ [])
    ≡ 21 ∷ 22 ∷ 24 ∷ 25 ∷ 23 ∷ 26 ∷ 27 ∷ 32 ∷ 27 ∷ 1 ∷ []
unfolding rules
step_order = refl

-- the check, both sides of each rule
pub checks :
    (check_call [] ∷ check_call (1 ∷ []) ∷ check_call (1 ∷ 1 ∷ 4 ∷ []) ∷ check_call (1 ∷ 1 ∷ 4 ∷ 0 ∷ [])
    ∷ check_call (0 ∷ 1 ∷ 4 ∷ 0 ∷ []) ∷ check_call (2 ∷ 1 ∷ 4 ∷ 0 ∷ [])
    ∷ check_call (1 ∷ 0 ∷ []) ∷ check_call (1 ∷ 9 ∷ replicate 18 0) ∷ check_call (1 ∷ 8 ∷ 18 ∷ 0 ∷ 18 ∷ 0 ∷ 18 ∷ 0 ∷ 18 ∷ 0 ∷ 18 ∷ 0 ∷ 18 ∷ 0 ∷ 18 ∷ 0 ∷ 18 ∷ 0 ∷ [])
    ∷ check_call (1 ∷ 1 ∷ 3 ∷ 0 ∷ []) ∷ check_call (1 ∷ 1 ∷ 4 ∷ 1 ∷ []) ∷ check_call (1 ∷ 1 ∷ 5 ∷ 0 ∷ []) ∷ check_call (1 ∷ 2 ∷ 6 ∷ 0 ∷ 5 ∷ 1 ∷ 0 ∷ [])
    ∷ check_call (1 ∷ 1 ∷ 4 ∷ 4096 ∷ replicate 4096 0) ∷ check_call (1 ∷ 1 ∷ 4 ∷ 4097 ∷ replicate 4097 0) ∷ [])
    ≡ 12 ∷ 12 ∷ 12 ∷ 0 ∷ 13 ∷ 13 ∷ 14 ∷ 14 ∷ 0 ∷ 15 ∷ 15 ∷ 15 ∷ 15 ∷ 0 ∷ 15 ∷ []
unfolding rules
checks = refl

-- 16, both sides of each range
pub ranges :
    ((start_call (in_mode 1 (negsuc 4095) (pos 4095)) 0).answer ∷ (start_call (in_mode 1 (negsuc 4096) (pos 0)) 0).answer ∷ (start_call (in_mode 1 (pos 0) (negsuc 4096)) 0).answer
    ∷ (start_call (in_mode 1 (pos 4096) (pos 0)) 0).answer ∷ (start_call (in_mode 1 (pos 0) (pos 4096)) 0).answer
    ∷ (start_call (with_mode fresh 0 3) 0).answer ∷ (start_call (with_mode fresh 6 0) 0).answer ∷ (start_call (with_mode fresh 7 3) 0).answer ∷ (start_call (with_mode fresh 254 3) 0).answer
    ∷ (start_call (with_mode fresh 1 4) 0).answer
    ∷ (start_call (with_increment fresh 63) 0).answer ∷ (start_call (with_increment fresh 64) 0).answer
    ∷ (start_call (with_status fresh 2) 0).answer ∷ (start_call (with_status fresh 3) 0).answer ∷ (start_call (with_status fresh 20) 0).answer ∷ (start_call (with_status fresh 21) 0).answer
    ∷ (start_call (with_status fresh 27) 0).answer ∷ (start_call (with_status fresh 28) 0).answer ∷ (start_call (with_status fresh 18) 0).answer
    ∷ (start_call (with_status fresh 31) 0).answer ∷ (start_call (with_status fresh 32) 0).answer ∷ (start_call (with_status fresh 33) 0).answer ∷ [])
    ≡ 0 ∷ 16 ∷ 16 ∷ 16 ∷ 16 ∷ 0 ∷ 0 ∷ 16 ∷ 16 ∷ 16 ∷ 0 ∷ 16 ∷ 0 ∷ 16 ∷ 16 ∷ 0 ∷ 0 ∷ 16 ∷ 16 ∷ 16 ∷ 0 ∷ 16 ∷ []
unfolding rules
ranges = refl

-- 18, both sides of each length, of a run and of a step
abbrev lent_set : ℕ → ℕ
lent_set n = (run_call (lending typed (replicate n 0)) fresh blank 0).result.answer

pub sets : (lent_set 0 ∷ lent_set 1 ∷ lent_set 759 ∷ lent_set 760 ∷ lent_set 761 ∷ (step_call (lending typed (replicate 761 0)) fresh blank).result.answer ∷ []) ≡ 0 ∷ 18 ∷ 18 ∷ 0 ∷ 18 ∷ 18 ∷ []
unfolding rules
sets = refl

-- each door before the next, with both shut: 11 12, 12 13, 13 14, 14 12, 12 15, 15 16, 16 17, 17 18, 18 28, 17 28, and 11 31
abbrev lame : Machine
lame = with_mode (with_status fresh 1) 7 3

pub door_order :
    ((run_call (plain []) fresh [] 1).result.answer ∷ check_call (2 ∷ []) ∷ check_call (2 ∷ 9 ∷ []) ∷ check_call (1 ∷ 9 ∷ []) ∷ check_call (1 ∷ 2 ∷ 0 ∷ 0 ∷ [])
    ∷ (run_call (plain (1 ∷ 1 ∷ 4 ∷ 1 ∷ [])) lame blank 1000001).result.answer ∷ door lame blank 1000001
    ∷ (run_call (lending typed (0 ∷ [])) (with_status fresh 1) blank 1000001).result.answer ∷ (run_call (lending typed (0 ∷ [])) (with_status fresh 1) blank 1).result.answer
    ∷ door (with_status fresh 1) blank 1000001 ∷ door (with_status fresh 1) blank 1
    ∷ (read_call square [] (pixel (negsuc 0) (pos 0))).answer ∷ [])
    ≡ 11 ∷ 12 ∷ 13 ∷ 14 ∷ 12 ∷ 15 ∷ 16 ∷ 17 ∷ 18 ∷ 17 ∷ 28 ∷ 11 ∷ []
unfolding rules
door_order = refl
