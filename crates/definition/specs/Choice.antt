-- A choice by a test, and numbered tests asked in order: every refusal of document 01 is a line of such a list.
use Rattle.std.specs.Prelude.{ℕ, Bool, true, false, ◌&&◌, ◌||◌, List, [], ◌∷◌, ◌++◌, eqb, leb}

infix 68 ◌when◌
abbrev pub pick {ℓ} : {A : Type ℓ} → Bool → A → A → A
pick true a b = a
pick false a b = b

-- from a to b, both counted in
abbrev pub within : ℕ → ℕ → ℕ → Bool
within a b n = leb a n && leb n b

-- one of a list
abbrev pub among : ℕ → List ℕ → Bool
among n [] = false
among n (k ∷ ks) = eqb n k || among n ks

-- a test, and the number that is answered where it holds
pub record Test : Type 0 where
  pub number : ℕ
  pub holds : Bool

abbrev pub ◌when◌ : ℕ → Bool → Test
n when t = record { number = n; holds = t }

-- the number of the first test that holds; 0 where none does
unfoldable pub first_of : List Test → ℕ
first_of [] = 0
first_of (t ∷ ts) = pick t.holds t.number (first_of ts)

-- lists of tests, one after the other
abbrev pub joined : List (List Test) → List Test
joined [] = []
joined (ts ∷ rest) = ts ++ joined rest

-- the tests of a list, asked only where c holds
abbrev pub only_if : Bool → List Test → List Test
only_if c [] = []
only_if c (t ∷ ts) = t.number when (c && t.holds) ∷ only_if c ts
