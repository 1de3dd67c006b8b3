-- Every layout of a word twice: with each named bit set and no other, then with each other bit set and none named.
use mathlib.Core.Bool.{true, false}
use mathlib.Core.Path.{refl}
use mathlib.Core.List.{List, [], ◌∷◌}
use lib.IntN.{pos, negsuc}
use Rattle.definition.specs.Units.{units}
use Rattle.definition.specs.declared.Instruction.TheVariants.{Does, Draws}
use Rattle.definition.specs.declared.Order.TheVariants.{SetMode, Jump, NoOp, StatusA, Increment, StatusC}
use Rattle.definition.specs.declared.Item.TheVariants.{ShortVector, LongVector, AbsolutePoint, GraphX, GraphY, RelativePoint, Characters}
use Rattle.definition.proofs.Opened.{rules}
use Rattle.definition.proofs.Worked.{Case, reads, steps, Hold, holding, in_mode, to, after_steps, stored, dot}

unfoldable pub layouts : List Case
layouts =
    reads 255 0o107400 (Does (SetMode (record { mode = 1; sets = true; value = 3 })))
    ∷ reads 255 0o132377 (Does (SetMode (record { mode = 6; sets = true; value = 0 })))
    ∷ reads 255 0o113000 (Does (SetMode (record { mode = 2; sets = true; value = 2 })))
    ∷ reads 255 0o104377 (Does (SetMode (record { mode = 1; sets = false; value = 0 })))
    ∷ reads 255 0o100000 (Does (SetMode (record { mode = 0; sets = false; value = 0 })))
    ∷ reads 255 0o103400 (Does (SetMode (record { mode = 0; sets = true; value = 3 })))
    ∷ reads 255 0o160000 (Does Jump)
    ∷ reads 255 0o163777 (Does Jump)
    ∷ reads 255 0o164000 (Does NoOp)
    ∷ reads 255 0o167777 (Does NoOp)
    ∷ reads 255 0o173400 (Does (StatusA (record { loads = true; latch = true; stops = true })))
    ∷ reads 255 0o170377 (Does (StatusA (record { loads = false; latch = false; stops = false })))
    ∷ reads 255 0o174177 (Does (Increment (record { sets = true; increment = 63 })))
    ∷ reads 255 0o175600 (Does (Increment (record { sets = false; increment = 0 })))
    ∷ reads 255 0o176020 (Does (StatusC (record { channel = 0; write = true })))
    ∷ reads 255 0o176357 (Does (StatusC (record { channel = 0; write = false })))
    ∷ reads 255 0o177420 (Does (StatusC (record { channel = 3; write = true })))
    ∷ reads 1 0o077600 (Draws true (ShortVector (units (negsuc 62)) (units (pos 0))))
    ∷ reads 1 0o000177 (Draws false (ShortVector (units (pos 0)) (units (negsuc 62))))
    ∷ reads 2 0o061777 (Draws true (LongVector (units (negsuc 1022))))
    ∷ reads 2 0o016000 (Draws false (LongVector (units (pos 0))))
    ∷ reads 3 0o041777 (Draws true (AbsolutePoint (units (pos 1023))))
    ∷ reads 3 0o036000 (Draws false (AbsolutePoint (units (pos 0))))
    ∷ reads 4 0o041777 (Draws true (GraphX (units (pos 1023))))
    ∷ reads 4 0o036000 (Draws false (GraphX (units (pos 0))))
    ∷ reads 5 0o041777 (Draws true (GraphY (units (pos 1023))))
    ∷ reads 5 0o036000 (Draws false (GraphY (units (pos 0))))
    -- a coordinate has no sign: bit 13 beside one is not read
    ∷ reads 3 0o077777 (Draws true (AbsolutePoint (units (pos 1023))))
    ∷ reads 4 0o077777 (Draws true (GraphX (units (pos 1023))))
    ∷ reads 5 0o077777 (Draws true (GraphY (units (pos 1023))))
    ∷ reads 6 0o077600 (Draws true (RelativePoint (units (negsuc 62)) (units (pos 0))))
    ∷ reads 6 0o000177 (Draws false (RelativePoint (units (pos 0)) (units (negsuc 62))))
    -- two codes, the low one first; bit 7 is not read, and every character is lit, whatever bit 14 is
    ∷ reads 0 0o000177 (Draws true (Characters 127 0))
    ∷ reads 0 0o077400 (Draws true (Characters 0 127))
    ∷ reads 0 0o077600 (Draws true (Characters 0 127))
    ∷ reads 0 0o000377 (Draws true (Characters 127 0))
    ∷ reads 0 0o042506 (Draws true (Characters 70 69))
    ∷ []

pub all_layouts : Hold layouts
unfolding rules layouts
all_layouts = refl

-- second words: bit 14 and the bits above the size are not read; in mode 3 the sign bit is not read either
unfoldable pub seconds : List Case
seconds =
    steps (holding (0o000000 ∷ 0o021777 ∷ [])) 1 (in_mode 2 (pos 0) (pos 0)) (to (in_mode 2 (pos 0) (pos 0)) 4 (pos 0) (negsuc 1022)) []
    ∷ steps (holding (0o000000 ∷ 0o056000 ∷ [])) 1 (in_mode 2 (pos 6) (pos 8)) (to (in_mode 2 (pos 6) (pos 8)) 4 (pos 6) (pos 8)) []
    ∷ steps (holding (0o040000 ∷ 0o001777 ∷ [])) 1 (in_mode 3 (pos 6) (pos 8)) (to (in_mode 3 (pos 6) (pos 8)) 4 (pos 0) (pos 1023)) (dot 0 511 ∷ [])
    ∷ steps (holding (0o000000 ∷ 0o076000 ∷ [])) 1 (in_mode 3 (pos 6) (pos 8)) (to (in_mode 3 (pos 6) (pos 8)) 4 (pos 0) (pos 0)) []
    ∷ steps (holding (0o000000 ∷ 0o077777 ∷ [])) 1 (in_mode 3 (pos 6) (pos 8)) (to (in_mode 3 (pos 6) (pos 8)) 4 (pos 0) (pos 1023)) []
    ∷ []

pub all_seconds : Hold seconds
unfolding rules seconds after_steps stored
all_seconds = refl
