-- The built-in set: its length, and that no two of its cells are alike; and which set serves.
use Prim.Native.Nat.{ℕ, zero, suc, ◌+◌, ◌-◌, ◌*◌, ◌≤◌, ◌<◌}
use mathlib.Core.Bool.{Bool, true, not, ◌&&◌}
use mathlib.Core.List.{List, [], ◌∷◌}
use mathlib.Core.Path.{◌≡◌, refl, sym, ap, ◌∙◌}
use native.Mathlib.Omega.{arith}
use lib.ListN.{length, get_or, take, drop, replicate}
use lib.Seq.{drop-drop}
use lib.Dec.{ltb}
use borrow.Author.Tests.{ltb-true}
use Rattle.definition.specs.Choice.{among}
use Rattle.definition.specs.BuiltIn.{built_in}
use Rattle.definition.specs.Characters.{set_bytes, chosen, cell_of}
use Rattle.definition.specs.Calls.{set_doors, lending, given, run_doors, run_door, run_call}
use Rattle.definition.specs.declared.Machine.{Machine}
use Rattle.definition.proofs.Exactly.{apart}
use Rattle.definition.proofs.Tables.{all_of, one_of}
use Rattle.definition.proofs.Plain.{not_true, both_true}
use Rattle.demands.proofs.Kept.{is_among}
use Rattle.demands.proofs.VectorOrigins.{at_in}

pub built_in_length : length built_in ≡ set_bytes
unfolding built_in
built_in_length = refl

-- each of them is a byte
all_bytes : all_of (λ n. ltb n 256) built_in ≡ true
unfolding built_in
all_bytes = refl

pub built_in_bytes : (i : ℕ) → i < set_bytes → get_or built_in i 0 < 256
built_in_bytes i h =
    let l = built_in_length in
    ltb-true _ _ (one_of (λ n. ltb n 256) built_in (get_or built_in i 0) all_bytes ((is_among (get_or built_in i 0) built_in).1 (at_in 0 built_in i (omega arith))))

-- ---- cells as numbers
-- a cell as one number; and the cells of a set, one after the other
abbrev worth : List ℕ → ℕ
worth [] = 0
worth (b ∷ bs) = b + 256 * worth bs

abbrev worths : ℕ → List ℕ → List ℕ
worths zero set = []
worths (suc n) set = worth (take 8 set) ∷ worths n (drop 8 set)

worths_length : (n : ℕ) (set : List ℕ) → length (worths n set) ≡ n
worths_length zero set = refl
worths_length (suc n) set = ap suc (worths_length n (drop 8 set))

worth_at : (n i : ℕ) (set : List ℕ) → i < n → get_or (worths n set) i 0 ≡ worth (take 8 (drop (8 * i) set))
worth_at zero i set l = absurd (omega arith)
worth_at (suc n) zero set l = refl
worth_at (suc n) (suc i) set l =
    let e : 8 + 8 * i ≡ 8 * suc i = omega arith in
    worth_at n i (drop 8 set) (omega arith) ∙ ap (λ (s : List ℕ). worth (take 8 s)) (drop-drop (8 * i) 8 set ∙ ap (λ (k : ℕ). drop k set) e)

-- all of a list differ
abbrev distinct : List ℕ → Bool
distinct [] = true
distinct (n ∷ ns) = not (among n ns) && distinct ns

differing : (ns : List ℕ) → distinct ns ≡ true → (i j : ℕ) → i < j → j < length ns → get_or ns i 0 ≡ get_or ns j 0 → ⊥
differing [] d i j h l e = absurd (omega arith)
differing (n ∷ ns) d i zero h l e = absurd (omega arith)
differing (n ∷ ns) d zero (suc j) h l e =
    let no = not_true.0 ((both_true {s = not (among n ns)}).0 d).0 in
    apart (sym ((is_among n ns).1 (rw e (at_in 0 ns j (omega arith)))) ∙ no)
differing (n ∷ ns) d (suc i) (suc j) h l e = differing ns ((both_true {s = not (among n ns)}).0 d).1 i j (omega arith) (omega arith) e

-- ---- the built-in cells
all_differ : distinct (worths 95 built_in) ≡ true
unfolding built_in
all_differ = refl

pub all_cells_differ : (a b : ℕ) → 32 ≤ a → a < b → b ≤ 126 → cell_of built_in a ≡ cell_of built_in b → ⊥
unfolding cell_of
all_cells_differ a b low h high e =
    let l = worths_length 95 built_in in
    differing (worths 95 built_in) all_differ (a - 32) (b - 32) (omega arith) (omega arith)
    (worth_at 95 (a - 32) built_in (omega arith) ∙ ap worth e ∙ sym (worth_at 95 (b - 32) built_in (omega arith)))

-- the cell of code 32 is blank, so no other is
pub space_blank : cell_of built_in 32 ≡ replicate 8 0
unfolding cell_of built_in
space_blank = refl

pub no_cell_blank : (c : ℕ) → 33 ≤ c → c ≤ 126 → cell_of built_in c ≡ replicate 8 0 → ⊥
no_cell_blank c low high e = all_cells_differ 32 c (omega arith) (omega arith) high (space_blank ∙ sym e)

pub digits_differ : (a b : ℕ) → 48 ≤ a → a < b → b ≤ 57 → cell_of built_in a ≡ cell_of built_in b → ⊥
digits_differ a b low h high e = all_cells_differ a b (omega arith) h (omega arith) e

-- ---- the set that serves
pub empty_set_is_built_in : (f : List ℕ) (m : Machine) (im : List ℕ) (b : ℕ) → run_call (lending f []) m im b ≡ run_call (lending f built_in) m im b
unfolding run_call run_door run_doors set_doors chosen
empty_set_is_built_in f m im b = rw built_in_length

pub lent_set_serves : (f set : List ℕ) → length set ≡ set_bytes → (given (lending f set)).set ≡ set
unfolding chosen
lent_set_serves f set l = rw l
