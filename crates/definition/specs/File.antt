-- The display file: its header and the check of it, and the fetch of a word at an address.
use Rattle.std.specs.Prelude.{ℕ, zero, suc, ◌+◌, ◌*◌, ◌/◌, ◌%◌, Bool, true, not, ◌&&◌, ◌||◌, List, [], ◌∷◌, ◌++◌, length, get_or, ltb, leb, eqb, Result, Ok, Err}
use Rattle.definition.specs.Choice.{pick, Test, ◌when◌}
use Rattle.definition.specs.declared.Unfetched.{Unfetched}
use Rattle.definition.specs.declared.Unfetched.TheVariants.{Odd, NoSegment, NoPlace}

-- the header: the tag, the number of segments, and a pair for each, where it starts and how long it is
abbrev pub tag : List ℕ → ℕ
tag f = get_or f 0 0

abbrev pub segments : List ℕ → ℕ
segments f = get_or f 1 0

abbrev pub offset : List ℕ → ℕ → ℕ
offset f i = get_or f (2 + 2 * i) 0

abbrev pub size : List ℕ → ℕ → ℕ
size f i = get_or f (3 + 2 * i) 0

abbrev pub header : List ℕ → ℕ
header f = 2 + 2 * segments f

-- what the header's rule asks of a segment, in a file of so many words
unfoldable pub keeps : ℕ → ℕ → ℕ → ℕ → Bool
keeps head words start long = leb head start && leb long 4096 && leb (start + long) words

-- the segments below k keep the rule
unfoldable pub keep_below : List ℕ → ℕ → Bool
keep_below f zero = true
keep_below f (suc i) = keeps (header f) (length f) (offset f i) (size f i) && keep_below f i

-- the check, in two parts: the head, and then the segments
unfoldable pub head_doors : List ℕ → List Test
head_doors f =
    12 when ltb (length f) 2
    ∷ 13 when not (eqb (tag f) 1)
    ∷ 14 when (eqb (segments f) 0 || ltb 8 (segments f))
    ∷ 12 when ltb (length f) (header f)
    ∷ []

unfoldable pub segment_doors : List ℕ → List Test
segment_doors f = 15 when not (keep_below f (segments f)) ∷ []

unfoldable pub file_doors : List ℕ → List Test
file_doors f = head_doors f ++ segment_doors f

-- an address counts bytes: of the word that it stands at, the segment and the place in it
abbrev pub segment_of : ℕ → ℕ
segment_of a = a / 2 / 4096

abbrev pub place_of : ℕ → ℕ
place_of a = a / 2 % 4096

-- what a step reads of a file: the word at each address, or why there is none
abbrev pub Memory : Type 0
Memory = ℕ → Result ℕ Unfetched

unfoldable pub fetch : List ℕ → Memory
fetch f a =
    pick (not (eqb (a % 2) 0)) (Err Odd)
    (pick (leb (segments f) (segment_of a)) (Err NoSegment)
    (pick (leb (size f (segment_of a)) (place_of a)) (Err NoPlace)
    (Ok (get_or f (offset f (segment_of a) + place_of a) 0))))

abbrev pub number_of : Unfetched → ℕ
number_of Odd = 21
number_of NoSegment = 22
number_of NoPlace = 23

-- what a fetch answered, taken apart: its word, and its number, 0 where it is a word
abbrev pub word_in : Result ℕ Unfetched → ℕ
word_in (Ok w) = w
word_in (Err why) = 0

abbrev pub number_in : Result ℕ Unfetched → ℕ
number_in (Ok w) = 0
number_in (Err why) = number_of why

unfoldable pub fetch_refusals : Result ℕ Unfetched → List Test
fetch_refusals got =
    21 when eqb (number_in got) 21
    ∷ 22 when eqb (number_in got) 22
    ∷ 23 when eqb (number_in got) 23
    ∷ []
