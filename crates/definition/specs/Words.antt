-- The words: how each is read, and what a word is refused for.
use Rattle.std.specs.Prelude.{ℕ, zero, suc, ◌-◌, ◌/◌, ◌%◌, ◌^◌, Bool, true, false, not, ◌&&◌, ◌||◌, List, [], ◌∷◌, eqb, leb, pos, neg_ℤ}
use Rattle.definition.specs.Choice.{pick, within, Test, ◌when◌}
use Rattle.definition.specs.Units.{units}
use Rattle.definition.specs.declared.Units.{Units}
use Rattle.definition.specs.declared.Order.{Order}
use Rattle.definition.specs.declared.Order.TheVariants.{SetMode, Jump, NoOp, StatusA, Increment, StatusC}
use Rattle.definition.specs.declared.Item.{Item}
use Rattle.definition.specs.declared.Item.TheVariants.{ShortVector, LongVector, AbsolutePoint, GraphX, GraphY, RelativePoint, Characters}
use Rattle.definition.specs.declared.Instruction.{Instruction}
use Rattle.definition.specs.declared.Instruction.TheVariants.{Does, Draws}

-- bits h to l of a word, l the lowest; at l = 0 there is no division, as in code
abbrev pub bits : ℕ → ℕ → ℕ → ℕ
bits h zero w = w % 2 ^ suc h
bits h (suc l) w = w / 2 ^ suc l % 2 ^ (h - l)

abbrev pub bit : ℕ → ℕ → Bool
bit k w = eqb (bits k k w) 1

-- ---- bit 15 set: the code, and what follows from it
abbrev pub code : ℕ → ℕ
code w = bits 14 11 w

unfoldable pub sets_mode : ℕ → Bool
sets_mode c = leb c 6

unfoldable pub not_built : ℕ → Bool
not_built c = within 7 11 c

-- a code that is not built is refused before its order is asked for
unfoldable pub order : ℕ → Order
order w =
    pick (sets_mode (code w)) (SetMode (record { mode = code w; sets = bit 10 w; value = bits 9 8 w }))
    (pick (eqb (code w) 12) Jump
    (pick (eqb (code w) 13) NoOp
    (pick (eqb (code w) 14) (StatusA (record { loads = bit 9 w; latch = bit 8 w; stops = bit 10 w }))
    (pick (bit 10 w) (StatusC (record { channel = bits 9 8 w; write = bit 4 w }))
    (Increment (record { sets = bit 6 w; increment = bits 5 0 w }))))))

-- ---- bit 15 clear: the item, by the mode
-- a sign bit and a size; of size 0 the sign is lost
unfoldable pub move : Bool → ℕ → Units
move false n = units (pos n)
move true n = units (neg_ℤ (pos n))

abbrev pub short_x : ℕ → Units
short_x w = move (bit 13 w) (bits 12 7 w)

abbrev pub short_y : ℕ → Units
short_y w = move (bit 6 w) (bits 5 0 w)

abbrev pub long : ℕ → Units
long w = move (bit 13 w) (bits 9 0 w)

abbrev pub coordinate : ℕ → Units
coordinate w = units (pos (bits 9 0 w))

-- the codes of the two characters of a word
abbrev pub first_code : ℕ → ℕ
first_code w = bits 6 0 w

abbrev pub second_code : ℕ → ℕ
second_code w = bits 14 8 w

abbrev pub none : ℕ
none = 255

-- no mode is refused before its item is asked for
unfoldable pub item : ℕ → ℕ → Item
item mode w =
    pick (eqb mode 0) (Characters (first_code w) (second_code w))
    (pick (eqb mode 1) (ShortVector (short_x w) (short_y w))
    (pick (eqb mode 2) (LongVector (long w))
    (pick (eqb mode 3) (AbsolutePoint (coordinate w))
    (pick (eqb mode 4) (GraphX (coordinate w))
    (pick (eqb mode 5) (GraphY (coordinate w))
    (RelativePoint (short_x w) (short_y w)))))))

-- bit 14 lights an item; in mode 0 it belongs to the second code, and every character is lit
abbrev pub is_lit : ℕ → ℕ → Bool
is_lit mode w = eqb mode 0 || bit 14 w

unfoldable pub decode : ℕ → ℕ → Instruction
decode mode w = pick (bit 15 w) (Does (order w)) (Draws (is_lit mode w) (item mode w))

-- ---- second words: of a jump, and of modes 2 and 3
abbrev pub jumps : Order → Bool
jumps (SetMode b) = false
jumps Jump = true
jumps NoOp = false
jumps (StatusA b) = false
jumps (Increment b) = false
jumps (StatusC b) = false

abbrev pub paired : Item → Bool
paired (ShortVector dx dy) = false
paired (LongVector dx) = true
paired (AbsolutePoint x) = true
paired (GraphX x) = false
paired (GraphY y) = false
paired (RelativePoint dx dy) = false
paired (Characters first second) = false

abbrev pub is_paired : Instruction → Bool
is_paired (Does o) = false
is_paired (Draws lit it) = paired it

abbrev pub has_second : Instruction → Bool
has_second (Does o) = jumps o
has_second (Draws lit it) = paired it

abbrev pub words_of : Instruction → ℕ
words_of i = pick (has_second i) 2 1

-- ---- what a first word is refused for, and a second word of modes 2 and 3
-- the codes that a set has a cell for
unfoldable pub is_code : ℕ → Bool
is_code c = within 32 126 c

unfoldable pub first_refusals : ℕ → ℕ → List Test
first_refusals mode w =
    24 when (bit 15 w && not_built (code w))
    ∷ 25 when (not (bit 15 w) && eqb mode none)
    ∷ 32 when (not (bit 15 w) && eqb mode 0 && not (is_code (first_code w) && is_code (second_code w)))
    ∷ []

unfoldable pub second_refusals : ℕ → List Test
second_refusals v = 26 when bit 15 v ∷ []
