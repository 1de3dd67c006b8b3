-- What `plot` prints: seven whole numbers from the bytes of its input, as a line of text.
use Rattle.std.specs.Prelude.{ℕ, zero, suc, ◌+◌, ◌*◌, ◌/◌, ◌%◌, not, ◌||◌, List, [], ◌∷◌, ◌++◌, length, eqb, ltb, ℤ, pos, negsuc}
use Rattle.definition.specs.Choice.{pick, Test, ◌when◌, first_of}
use Rattle.definition.specs.Image.{blank}
use Rattle.definition.specs.Machine.{fresh}
use Rattle.definition.specs.Calls.{plain, run_doors, run_call}
use Rattle.definition.specs.declared.Ran.{Ran}

-- two bytes a word, the low one first
unfoldable pub words_in : List ℕ → List ℕ
words_in [] = []
words_in (low ∷ []) = []
words_in (low ∷ high ∷ rest) = (low + 256 * high) ∷ words_in rest

unfoldable pub input_doors : List ℕ → List Test
input_doors bytes = 19 when (not (eqb (length bytes % 2) 0) || ltb 65536 (length bytes)) ∷ []

abbrev pub plot_budget : ℕ
plot_budget = 1000

-- answer, steps, words, stores, counter, X, Y
abbrev pub ran_line : Ran → List ℤ
ran_line r = pos r.answer ∷ pos r.counts.steps ∷ pos r.counts.words ∷ pos r.counts.stores ∷ pos r.machine.counter ∷ r.machine.x.0 ∷ r.machine.y.0 ∷ []

abbrev pub refused_line : ℕ → List ℤ
refused_line n = pos n ∷ pos 0 ∷ pos 0 ∷ pos 0 ∷ pos 0 ∷ pos 0 ∷ pos 0 ∷ []

-- 19, then the doors of the run, then the run of a fresh machine on a cleared image
unfoldable pub plot_line : List ℕ → List ℤ
plot_line bytes =
    let n = first_of (input_doors bytes ++ run_doors (plain (words_in bytes)) fresh blank plot_budget) in
    let ran = ran_line (run_call (plain (words_in bytes)) fresh blank plot_budget).result in
    pick (eqb n 0) ran (refused_line n)

-- ---- the line as text
-- the decimal figures of n, of which there are at most `room`
unfoldable pub figures : ℕ → ℕ → List ℕ
figures zero n = []
figures (suc room) n =
    let higher = figures room (n / 10) in
    pick (ltb n 10) ((48 + n) ∷ []) (higher ++ ((48 + n % 10) ∷ []))

-- a number below zero has a minus sign before it
unfoldable pub printed : ℤ → List ℕ
printed (pos n) = figures (suc n) n
printed (negsuc n) = 45 ∷ figures (suc (suc n)) (suc n)

-- a space between two numbers, and a newline at the end
unfoldable pub text : List ℤ → List ℕ
text [] = []
text (z ∷ []) = printed z ++ (10 ∷ [])
text (z ∷ y ∷ rest) = printed z ++ (32 ∷ text (y ∷ rest))

unfoldable pub plot_text : List ℕ → List ℕ
plot_text bytes = text (plot_line bytes)
