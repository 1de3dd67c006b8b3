-- Characters, pixel by pixel: where a cell goes, which of its bits are stored, which set serves, and where a word ends.
use Prim.Native.Nat.{ℕ}
use mathlib.Core.Bool.{false}
use mathlib.Core.Path.{◌≡◌, refl}
use mathlib.Core.List.{List, [], ◌∷◌}
use lib.ListN.{length, replicate}
use lib.IntN.{pos, negsuc}
use Rattle.definition.specs.BuiltIn.{built_in}
use Rattle.definition.specs.Characters.{set_bytes}
use Rattle.definition.specs.Machine.{with_write, with_status}
use Rattle.definition.specs.Step.{Given}
use Rattle.definition.specs.Calls.{lending, given}
use Rattle.definition.proofs.Opened.{rules}
use Rattle.definition.proofs.Worked.{Case, steps, Hold, file, holding, in_mode, to, after_steps, stored, dot}

pub built_in_length : length built_in ≡ set_bytes
unfolding built_in
built_in_length = refl

-- a lent set: code 32 has its lower left and its two upper right pixels, code 33 those at the left of its second row and at the right of its last but one
abbrev own : List ℕ
own = 0x03 ∷ 0 ∷ 0 ∷ 0 ∷ 0 ∷ 0 ∷ 0 ∷ 0x80 ∷ 0 ∷ 0x80 ∷ 0 ∷ 0 ∷ 0 ∷ 0 ∷ 0x01 ∷ 0 ∷ replicate 744 0xFF

abbrev pub showing : List ℕ → Given
showing words = given (lending (file words) own)

unfoldable pub characters : List Case
characters =
    -- the built-in 1 and a space: docs/CHARACTERS.md has the picture
    steps (holding (0o020061 ∷ [])) 1 (in_mode 0 (pos 10) (pos 20)) (to (in_mode 0 (pos 10) (pos 20)) 2 (pos 42) (pos 20))
    (dot 8 17 ∷ dot 9 17
    ∷ dot 7 16 ∷ dot 8 16 ∷ dot 9 16
    ∷ dot 6 15 ∷ dot 7 15 ∷ dot 8 15 ∷ dot 9 15
    ∷ dot 8 14 ∷ dot 9 14
    ∷ dot 8 13 ∷ dot 9 13
    ∷ dot 8 12 ∷ dot 9 12
    ∷ dot 6 11 ∷ dot 7 11 ∷ dot 8 11 ∷ dot 9 11 ∷ dot 10 11 ∷ dot 11 11 ∷ [])
    -- a lent set serves instead; the low code is first, and the second is 8 pixels further right
    ∷ steps (showing (0o020441 ∷ [])) 1 (in_mode 0 (pos 10) (pos 20)) (to (in_mode 0 (pos 10) (pos 20)) 2 (pos 42) (pos 20)) (dot 5 16 ∷ dot 12 11 ∷ dot 13 16 ∷ dot 20 11 ∷ [])
    ∷ steps (showing (0o020440 ∷ [])) 1 (in_mode 0 (pos 10) (pos 20)) (to (in_mode 0 (pos 10) (pos 20)) 2 (pos 42) (pos 20))
    (dot 11 17 ∷ dot 12 17 ∷ dot 5 10 ∷ dot 13 16 ∷ dot 20 11 ∷ [])
    -- at odd units the corner is the pixel of the position, below zero too
    ∷ steps (showing (0o020440 ∷ [])) 1 (in_mode 0 (pos 11) (pos 21)) (to (in_mode 0 (pos 11) (pos 21)) 2 (pos 43) (pos 21))
    (dot 11 17 ∷ dot 12 17 ∷ dot 5 10 ∷ dot 13 16 ∷ dot 20 11 ∷ [])
    ∷ steps (showing (0o020440 ∷ [])) 1 (in_mode 0 (negsuc 0) (negsuc 0)) (to (in_mode 0 (negsuc 0) (negsuc 0)) 2 (pos 31) (negsuc 0)) (dot 5 6 ∷ dot 6 6 ∷ dot 7 5 ∷ dot 14 0 ∷ [])
    -- cut at the upper right corner of the field; wholly beyond it
    ∷ steps (showing (0o020440 ∷ [])) 1 (in_mode 0 (pos 1010) (pos 1022)) (to (in_mode 0 (pos 1010) (pos 1022)) 2 (pos 1042) (pos 1022)) (dot 505 511 ∷ [])
    ∷ steps (showing (0o020440 ∷ [])) 1 (in_mode 0 (pos 1024) (pos 0)) (to (in_mode 0 (pos 1024) (pos 0)) 2 (pos 1056) (pos 0)) []
    -- two words go on where the first ended; write off draws nothing and moves
    ∷ steps (showing (0o020440 ∷ 0o020440 ∷ [])) 2 (in_mode 0 (pos 0) (pos 0)) (to (in_mode 0 (pos 0) (pos 0)) 4 (pos 64) (pos 0))
    (dot 6 7 ∷ dot 7 7 ∷ dot 0 0 ∷ dot 8 6 ∷ dot 15 1 ∷ dot 22 7 ∷ dot 23 7 ∷ dot 16 0 ∷ dot 24 6 ∷ dot 31 1 ∷ [])
    ∷ steps (showing (0o020440 ∷ [])) 1 (with_write (in_mode 0 (pos 10) (pos 20)) false) (to (with_write (in_mode 0 (pos 10) (pos 20)) false) 2 (pos 42) (pos 20)) []
    -- bit 7 is not read; bit 14 belongs to the second code
    ∷ steps (showing (0o020640 ∷ [])) 1 (in_mode 0 (pos 10) (pos 20)) (to (in_mode 0 (pos 10) (pos 20)) 2 (pos 42) (pos 20))
    (dot 11 17 ∷ dot 12 17 ∷ dot 5 10 ∷ dot 13 16 ∷ dot 20 11 ∷ [])
    -- to the end of the range, and one unit past it; a bad second code draws neither
    ∷ steps (showing (0o020440 ∷ [])) 1 (in_mode 0 (pos 4063) (pos 0)) (to (in_mode 0 (pos 4063) (pos 0)) 2 (pos 4095) (pos 0)) []
    ∷ steps (showing (0o020440 ∷ [])) 1 (in_mode 0 (pos 4064) (pos 0)) (with_status (in_mode 0 (pos 4064) (pos 0)) 27) []
    ∷ steps (showing (0o000040 ∷ [])) 1 (in_mode 0 (pos 10) (pos 20)) (with_status (in_mode 0 (pos 10) (pos 20)) 32) []
    ∷ steps (showing (0o020037 ∷ [])) 1 (in_mode 0 (pos 10) (pos 20)) (with_status (in_mode 0 (pos 10) (pos 20)) 32) []
    -- in another mode the same word is no character, and its bit 14 lights it
    ∷ steps (showing (0o020441 ∷ [])) 1 (in_mode 1 (pos 10) (pos 20)) (to (in_mode 1 (pos 10) (pos 20)) 2 (pos 8) (pos 53)) []
    ∷ []

pub all_characters : Hold characters
unfolding rules characters after_steps stored built_in
all_characters = refl
