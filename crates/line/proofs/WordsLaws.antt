-- The words of a list of bytes are those of its pairs.
use Rattle.std.proofs.Common.{◌≡◌, ℕ, suc, ◌+◌, ◌*◌, ◌/◌, ◌<◌, ◌≤◌, List, [], ◌∷◌, map, length, take, get_or, refl, arith, sym, subst, zero-add}
use Rattle.std.proofs.Math.ListN.{set}
use Rattle.std.proofs.Math.Seq.{paste, take-length}
use Rattle.std.proofs.lemmas.List.{get_or-map, length-map}
use Rattle.std.proofs.lemmas.List.Edits.{paste_more, take-paste}
use Rattle.std.specs.Int.{w16, from_le_bytes}
use Rattle.std.specs.Simd.{first_chunks}
use Rattle.definition.specs.Plot.{words_in}

-- the low byte first
abbrev pub word : List ℕ → ℕ
word pair = from_le_bytes w16 pair

pub words_of_pairs : (bytes : List ℕ) → words_in bytes ≡ map word (first_chunks 2 (length bytes / 2) bytes)
unfolding words_in
words_of_pairs [] = refl
words_of_pairs (low ∷ []) = refl
words_of_pairs (low ∷ high ∷ rest) =
    let count : length (low ∷ high ∷ rest) / 2 ≡ suc (length rest / 2) = omega arith in
    let first : low + 256 * high ≡ word (low ∷ high ∷ []) = omega arith in
    rw (count, first, words_of_pairs rest) refl

-- ---- the first i of them stand at the start of a list
pub one_more : (before : List ℕ) (pairs : List (List ℕ)) (i : ℕ) {words : List ℕ} {v : ℕ} → i < length pairs → length pairs ≤ length before → v ≡ word (get_or pairs i [])
    → words ≡ paste before 0 (map word pairs) i → set words i v ≡ paste before 0 (map word pairs) (i + 1)
one_more before pairs i h k e so =
    let s = map word pairs in
    let n : i < length s = omega (arith, length-map pairs word) in
    let P : ℕ → Type 0 = λ at. set (paste before 0 s i) at (get_or s i 0) ≡ paste before 0 s (i + 1) in
    rw (so, e, ← get_or-map word pairs i [] 0 h) (subst P (zero-add i) (paste_more before 0 s i 0 (omega arith) n))

pub all_there : (bytes before : List ℕ) (pairs : List (List ℕ)) (i : ℕ) {words : List ℕ} → pairs ≡ first_chunks 2 (length bytes / 2) bytes → i ≡ length pairs
    → words ≡ paste before 0 (map word pairs) i → take (length pairs) words ≡ words_in bytes
all_there bytes before pairs i p e so =
    let s = map word pairs in
    let n : i ≡ length s = omega (arith, length-map pairs word) in
    let P : ℕ → Type 0 = λ end. take end (paste before 0 s i) ≡ take i s in
    rw (← e, so, subst P (zero-add i) (take-paste before 0 s i (omega arith) (omega arith)), n, take-length) (rw p (sym (words_of_pairs bytes)))
