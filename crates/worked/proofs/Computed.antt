-- Whole calls on whole images, computed, as in the examples of crates/definition/proofs.
use Prim.Native.Nat.{ℕ}
use mathlib.Core.Path.{◌≡◌, refl}
use mathlib.Core.List.{List, [], ◌∷◌}
use lib.ListN.{get_or, replicate}
use lib.IntN.{ℤ, pos, negsuc}
use Rattle.definition.specs.Units.{pixel}
use Rattle.definition.specs.Image.{square, blank, left}
use Rattle.definition.specs.Machine.{fresh, with_status}
use Rattle.definition.specs.Run.{nothing}
use Rattle.definition.specs.Calls.{plain, run_call, step_call, clear_call, read_call}
use Rattle.definition.specs.Plot.{words_in, plot_line, figures, printed, text, plot_text}
use Rattle.definition.proofs.Opened.{rules}
use Rattle.definition.proofs.Worked.{file, dot}
use Rattle.definition.proofs.Runs.{typed, numbers}
use Rattle.definition.proofs.Numbers.{door}

-- ---- plot
-- the case that document 01 lists, by its bytes
abbrev pub listed : List ℕ
listed = 0x01 ∷ 0x00 ∷ 0x01 ∷ 0x00 ∷ 0x04 ∷ 0x00 ∷ 0x04 ∷ 0x00 ∷ 0x00 ∷ 0x97 ∷ 0x06 ∷ 0x40 ∷ 0x04 ∷ 0x00 ∷ 0x00 ∷ 0xF4 ∷ []

pub plot_listed : plot_line listed ≡ pos 1 ∷ pos 3 ∷ pos 4 ∷ pos 4 ∷ pos 8 ∷ pos 6 ∷ pos 4 ∷ []
unfolding rules
plot_listed = refl

-- the line as it is printed, in ASCII; and one with a number below zero and numbers of more than one figure
pub plot_text_is : plot_text listed ≡ 49 ∷ 32 ∷ 51 ∷ 32 ∷ 52 ∷ 32 ∷ 52 ∷ 32 ∷ 56 ∷ 32 ∷ 54 ∷ 32 ∷ 52 ∷ 10 ∷ []
unfolding plot_text text printed figures
plot_text_is = rw plot_listed

pub printed_so : text (pos 1000 ∷ negsuc 4095 ∷ pos 0 ∷ []) ≡ 49 ∷ 48 ∷ 48 ∷ 48 ∷ 32 ∷ 45 ∷ 52 ∷ 48 ∷ 57 ∷ 54 ∷ 32 ∷ 48 ∷ 10 ∷ []
unfolding rules
printed_so = refl

-- 19 speaks before the file's doors, from 65,537 bytes on or for an odd number; an empty input is a file of no words
abbrev alone : ℕ → List ℤ
alone n = pos n ∷ pos 0 ∷ pos 0 ∷ pos 0 ∷ pos 0 ∷ pos 0 ∷ pos 0 ∷ []

pub plot_refused : (plot_line (2 ∷ []) ∷ plot_line (replicate 65538 0) ∷ plot_line (replicate 65536 0) ∷ plot_line [] ∷ plot_line (2 ∷ 0 ∷ 9 ∷ 0 ∷ []) ∷ [])
    ≡ alone 19 ∷ alone 19 ∷ alone 13 ∷ alone 12 ∷ alone 13 ∷ []
unfolding rules
plot_refused = refl

-- a jump to itself uses up the budget of 1,000
pub plot_budget_is : plot_line (1 ∷ 0 ∷ 1 ∷ 0 ∷ 4 ∷ 0 ∷ 2 ∷ 0 ∷ 0x00 ∷ 0xE0 ∷ 0 ∷ 0 ∷ []) ≡ pos 0 ∷ pos 1000 ∷ pos 2000 ∷ pos 0 ∷ pos 0 ∷ pos 0 ∷ pos 0 ∷ []
unfolding rules
plot_budget_is = refl

-- ---- the image
-- of the listed case: four pixels of value 3, in bytes 0, 128 and 256; read back by the call
abbrev listed_image : List ℕ
listed_image = (run_call (plain (words_in listed)) fresh blank 1000).image

pub listed_bytes : (get_or listed_image 0 9 ∷ get_or listed_image 1 9 ∷ get_or listed_image 128 9 ∷ get_or listed_image 256 9 ∷ get_or listed_image 257 9 ∷ []) ≡ 0x03 ∷ 0 ∷ 0x3C ∷ 0xC0 ∷ 0 ∷ []
unfolding rules
listed_bytes = refl

pub listed_read : ((read_call square listed_image (dot 0 0)).digit ∷ (read_call square listed_image (dot 2 1)).digit ∷ (read_call square listed_image (dot 3 1)).digit ∷ (read_call square listed_image (dot 3 2)).digit ∷ []) ≡ 3 ∷ 3 ∷ 0 ∷ 3 ∷ []
unfolding rules
listed_read = refl

-- a refused read gives 0, whatever stands in the image
pub refused_read : (read_call square (replicate 65536 255) (dot 512 0) ∷ read_call square (255 ∷ []) (dot 0 0) ∷ []) ≡ record { answer = 31; digit = 0 } ∷ record { answer = 11; digit = 0 } ∷ []
unfolding rules
refused_read = refl

-- ---- the calls
-- a step of the typed program is its first instruction
pub typed_step : numbers (step_call (plain typed) fresh blank) ≡ pos 0 ∷ pos 1 ∷ pos 1 ∷ pos 0 ∷ pos 2 ∷ pos 0 ∷ pos 0 ∷ []
unfolding rules
typed_step = refl

-- with budget 0 a running machine, its image and its counts stay as given
pub no_budget : run_call (plain typed) fresh blank 0 ≡ left (record { answer = 0; counts = nothing; machine = fresh }) blank
unfolding rules
no_budget = refl

pub cleared : (clear_call (replicate 65536 255) ∷ clear_call (7 ∷ []) ∷ []) ≡ left 0 (replicate 65536 0) ∷ left 11 (7 ∷ []) ∷ []
unfolding rules
cleared = refl

-- 11, 17, 28 and 31, both sides of each
pub doors :
    (door fresh (replicate 65535 0) 1 ∷ door fresh (replicate 65537 0) 1 ∷ door fresh blank 1 ∷ door fresh blank 1000001 ∷ door (with_status fresh 1) blank 0 ∷ door (with_status fresh 24) blank 1
    ∷ (read_call square blank (dot 0 0)).answer ∷ (read_call square blank (dot 511 511)).answer ∷ (read_call square blank (pixel (negsuc 0) (pos 0))).answer ∷ (read_call square blank (pixel (pos 0) (negsuc 0))).answer
    ∷ (read_call square blank (dot 512 0)).answer ∷ (read_call square blank (dot 0 512)).answer ∷ [])
    ≡ 11 ∷ 11 ∷ 0 ∷ 17 ∷ 28 ∷ 28 ∷ 0 ∷ 0 ∷ 31 ∷ 31 ∷ 31 ∷ 31 ∷ []
unfolding rules
doors = refl

-- a budget of 1,000,000 runs: here until the file ends
pub full_budget : (run_call (plain (file (0o164000 ∷ []))) fresh blank 1000000).result.answer ≡ 23
unfolding rules
full_budget = refl
