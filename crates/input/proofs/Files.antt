-- What a buffer holds of a file whose bytes are known.
use Rattle.std.proofs.Common.{◌≡◌, ℕ, ◌≤◌, List, [], ◌++◌, length, take, IfSome, sym, ap, ◌∙◌, subst, append-nil}
use Rattle.std.proofs.lemmas.List.{take_all}
use Rattle.std.proofs.Math.Seq.{take-append_seam}
use Rattle.std.specs.Prelude.{Option, None, Some}
use Rattle.std.specs.Io.KnownBytes.{Consumes, IsAtEnd}

-- all that there is room for
pub taken_full : (old new : Option (List ℕ)) (bs : List ℕ) (n : ℕ) → Consumes old new bs → length bs ≡ n → IfSome old (λ file. bs ≡ take n file)
taken_full None new bs n p e = tt
taken_full (Some xs) None bs n p e = absurd p
taken_full (Some xs) (Some ys) bs n p e = sym (ap (take n) p ∙ subst (λ m. take m (bs ++ ys) ≡ bs) e (take-append_seam bs ys))

-- the whole file, as one more read of k bytes shows
pub taken_whole : (old mid new : Option (List ℕ)) (bs buf : List ℕ) (k n : ℕ) → Consumes old mid bs → Consumes mid new (take k buf) → k ≡ 0 → IsAtEnd new → length bs ≤ n
    → IfSome old (λ file. bs ≡ take n file)
taken_whole None mid new bs buf k n p q z e h = tt
taken_whole (Some xs) None new bs buf k n p q z e h = absurd p
taken_whole (Some xs) (Some ys) None bs buf k n p q z e h = absurd q
taken_whole (Some xs) (Some ys) (Some zs) bs buf k n p q z e h =
    let last : ys ≡ [] = q ∙ ap (λ m. take m buf ++ zs) z ∙ e in
    let all : xs ≡ bs = p ∙ ap (λ l. bs ++ l) last ∙ append-nil bs in
    sym (ap (take n) all ∙ take_all n bs h)
