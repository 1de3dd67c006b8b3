-- What `picture` shows: the screen that a display file draws, and the bytes of a binary PGM that holds it.
use Rattle.std.specs.Prelude.{ℕ, zero, suc, List, [], ◌∷◌, ◌++◌, eqb}
use Rattle.definition.specs.Choice.{pick, first_of}
use Rattle.definition.specs.Image.{square, blank, digit_at, Left, left}
use Rattle.definition.specs.Machine.{fresh}
use Rattle.definition.specs.Calls.{lending, run_call}
use Rattle.definition.specs.Plot.{words_in, input_doors}

-- ---- the screen
-- 19 first, with nothing drawn; else what the run of a fresh machine on a cleared image, with that budget and that lent set, answers and leaves
unfoldable pub drawing : List ℕ → ℕ → List ℕ → Left ℕ
drawing bytes budget set =
    let n = first_of (input_doors bytes) in
    let ran = run_call (lending (words_in bytes) set) fresh blank budget in
    pick (eqb n 0) (left ran.result.answer ran.image) (left n blank)

-- ---- the picture
-- P5, the width and the height, and the largest value, 3: a byte of the picture is its pixel's own digit
abbrev pub header : List ℕ
header = 80 ∷ 53 ∷ 10 ∷ 53 ∷ 49 ∷ 50 ∷ 32 ∷ 53 ∷ 49 ∷ 50 ∷ 10 ∷ 51 ∷ 10 ∷ []

-- the first n digits of row y, from the left
unfoldable pub row : List ℕ → ℕ → ℕ → List ℕ
row image y zero = []
row image y (suc n) = row image y n ++ (digit_at square image n y ∷ [])

-- the lowest n rows, the highest of them first, as (0, 0) is the lower left pixel
unfoldable pub rows : List ℕ → ℕ → List ℕ
rows image zero = []
rows image (suc n) = row image n 512 ++ rows image n

unfoldable pub pgm : List ℕ → List ℕ
pgm image = header ++ rows image 512
