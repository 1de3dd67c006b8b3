-- A list with one part written anew: what stands before the part, and the first n of the part.
use Rattle.std.proofs.Common.{◌≡◌, ℕ, ◌+◌, ◌≤◌, List, ◌++◌, length, take, sym, ap, ◌∙◌, subst, length-take-le}
use borrow.Rule.Slice.PartMut.{put_mid, post_of}
use Rattle.std.proofs.Math.Seq.{take-append-add, take-append-le}

pub take-put_mid : (a k n : ℕ) (xs ys : List ℕ) → a ≤ length xs → n ≤ length ys → take a xs ++ take n ys ≡ take (a + n) (put_mid a k xs ys)
take-put_mid a k n xs ys within fits =
    let front = take a xs in
    let back = ys ++ post_of a k xs in
    let both : take (a + n) (front ++ back) ≡ front ++ take n back =
    subst (λ (m : ℕ). take (m + n) (front ++ back) ≡ front ++ take n back) (length-take-le a xs within) (take-append-add front back n) in
    sym (both ∙ ap (λ (l : List ℕ). front ++ l) (take-append-le n ys (post_of a k xs) fits))
