-- The conditions that the theorems ask for can be met: a file that is accepted, a run whose doors are all open, words that are ready to be plotted, vectors
-- there and back, characters and the sets that are lent, a pen that leaves what it finds.
use Prim.Native.Nat.{ℕ}
use mathlib.Core.List.{List, [], ◌∷◌}
use mathlib.Core.Path.{refl}
use mathlib.Core.Logic.{inl, inr, ⊎_elim}
use native.Mathlib.Omega.{arith}
use lib.ListN.{replicate}
use lib.IntN.{pos, negsuc}
use Rattle.whole.specs.Parts.{whole}
use Rattle.definition.specs.Units.{units, moved}
use Rattle.definition.specs.Image.{square, blank}
use Rattle.definition.specs.BuiltIn.{built_in}
use Rattle.definition.specs.Characters.{set_bytes}
use Rattle.definition.specs.Machine.{fresh, with_position, with_mode, with_increment}
use Rattle.definition.specs.Step.{Given, step}
use Rattle.definition.specs.Run.{State, begun}
use Rattle.definition.specs.Calls.{lending, plain}
use Rattle.definition.specs.declared.Machine.{Machine}
use Rattle.definition.proofs.Opened.{rules}
use Rattle.definition.proofs.Worked.{file, holding, in_mode, dot}
use Rattle.definition.proofs.Runs.{typed}
use Rattle.definition.proofs.StoreLaws.{Fitting}
use Rattle.demands.specs.Conditions.{Accepted, InRange, Fits, Lendable, Open, InField, BlankWord}
use Rattle.demands.specs.Cells.{ByCharacters, DrawnCharacters}
use Rattle.demands.specs.Graphs.{Axis, AlongX, AlongY, mode_of, Ready}
use Rattle.demands.specs.Strokes.{LitVector, VectorWords, negated}
use Rattle.demands.proofs.Kept.{fits}
use Rattle.demands.proofs.FileAnswers.{check_0}
use Rattle.demands.proofs.CallAnswers.{door_0}

pub typed_accepted : Accepted typed
unfolding rules
typed_accepted = (check_0 typed).0 refl

pub typed_open : Open (plain typed) fresh blank 1000
unfolding rules
typed_open = (door_0 (plain typed) fresh blank 1000).0 refl

-- from a digit it leaves a digit, and from 4 it leaves 4
pub idle_pen : Fitting 4 (λ v. v)
idle_pen = record { some = omega arith; low = λ v h. h }

-- a fresh machine in a graph mode at (10, 10) with increment 4, before two words
abbrev graphing : Axis → State
graphing axis = begun (with_increment (with_mode (with_position fresh (units (pos 10)) (units (pos 10))) (mode_of axis) 3) 4) blank

-- the second of them blank
abbrev two : List ℕ
two = 0o040100 ∷ 0o000104 ∷ []

pub ready_y : Ready AlongX (holding two) (graphing AlongX) two
unfolding rules
ready_y = record { running = refl; mode = refl; words = (refl, (refl, tt)); data_words = (refl, (refl, tt)); low = omega whole; room = omega whole }

pub ready_x : Ready AlongY (holding two) (graphing AlongY) two
unfolding rules
ready_x = record { running = refl; mode = refl; words = (refl, (refl, tt)); data_words = (refl, (refl, tt)); low = omega whole; room = omega whole }

-- and a call that draws them: its doors are open
pub graph_open : (axis : Axis) → Open (plain (file two)) (graphing axis).machine blank 2
unfolding rules
graph_open AlongX = (door_0 (plain (file two)) (graphing AlongX).machine blank 2).0 refl
graph_open AlongY = (door_0 (plain (file two)) (graphing AlongY).machine blank 2).0 refl

-- a short vector by (4, 1), and the word with both signs turned; a long one by (6, -4), and the two words with both signs turned
abbrev shorts : Given
shorts = holding (0o041001 ∷ 0o061101 ∷ [])

abbrev longs : Given
longs = holding (0o040006 ∷ 0o020004 ∷ 0o060006 ∷ 0o000004 ∷ [])

abbrev before : ℕ → Machine
before mode = in_mode mode (pos 10) (pos 10)

pub short_there : VectorWords shorts (before 1) (units (pos 4)) (units (pos 1))
unfolding rules
short_there = inl (record { mode = refl; fetched = refl; data_word = refl; lit = refl; across = refl; upward = refl })

pub short_back : VectorWords shorts (step shorts (before 1)).machine (negated (units (pos 4))) (negated (units (pos 1)))
unfolding rules
short_back = inl (record { mode = refl; fetched = refl; data_word = refl; lit = refl; across = refl; upward = refl })

pub long_there : VectorWords longs (before 2) (units (pos 6)) (units (negsuc 3))
unfolding rules
long_there = inr (record { mode = refl; fetched = refl; data_word = refl; lit = refl; fetched_too = refl; data_too = refl; across = refl; upward = refl })

pub long_back : VectorWords longs (step longs (before 2)).machine (negated (units (pos 6))) (negated (units (negsuc 3)))
unfolding rules
long_back = inr (record { mode = refl; fetched = refl; data_word = refl; lit = refl; fetched_too = refl; data_too = refl; across = refl; upward = refl })

-- the characters A and B: their word is completed with write on, the machine is in range, and a pixel of the field is lit by A
abbrev lettering : Given
lettering = holding (0o041101 ∷ [])

pub characters_drawn : DrawnCharacters lettering (before 0)
unfolding rules
characters_drawn = record { completes = refl; writes = refl; data_word = refl; mode = refl }

pub lettering_fits : Fits (before 0)
unfolding rules
lettering_fits = (fits (before 0)).0 refl

pub lit_by_a : InField square (dot 8 12) × ByCharacters lettering (before 0) (dot 8 12)
unfolding rules built_in
lit_by_a = (record { x = (omega whole, omega whole); y = (omega whole, omega whole) }, inl (record { r = 0; k = 3; row = omega arith; column = omega arith; place = refl; bit_set = refl }))

pub lettering_open : Open (plain (file (0o041101 ∷ []))) (before 0) blank 1
unfolding rules
lettering_open = (door_0 (plain (file (0o041101 ∷ []))) (before 0) blank 1).0 refl

-- of a data word of another mode a clear bit 14 is met
pub blank_met : BlankWord 1 0o001000
blank_met = (λ e. omega arith, refl)

-- a set that is lent, with every door open; and one that may not be
pub lent_open : Open (lending typed (replicate set_bytes 0)) fresh blank 1000
unfolding rules
lent_open = (door_0 (lending typed (replicate set_bytes 0)) fresh blank 1000).0 refl

pub one_byte_lent : Lendable (0 ∷ []) → ⊥
one_byte_lent = ⊎_elim (λ e. omega arith) (λ e. omega arith)

-- their ends are in range, and the first of each is a lit vector with write on
pub ends_in : (InRange (moved (before 1).x (units (pos 4))) × InRange (moved (before 1).y (units (pos 1)))) × (InRange (moved (before 2).x (units (pos 6))) × InRange (moved (before 2).y (units (negsuc 3))))
unfolding moved
ends_in = ((record { low = omega whole; high = omega whole }, record { low = omega whole; high = omega whole }), (record { low = omega whole; high = omega whole }, record { low = omega whole; high = omega whole }))

pub both_lit : LitVector shorts (before 1) × LitVector longs (before 2)
unfolding rules
both_lit = (record { completes = refl; writes = refl; data_word = refl; is_lit = refl; mode = inl refl }, record { completes = refl; writes = refl; data_word = refl; is_lit = refl; mode = inr refl })
