-- The answers of the check, each exactly when; and those of a fetch.
use Prim.Native.Nat.{ℕ, zero, suc, ◌+◌, ◌≤◌, ◌<◌, ◌%◌}
use mathlib.Core.Bool.{Bool, true, false, not, ◌&&◌, ◌||◌}
use mathlib.Core.List.{List, [], ◌∷◌}
use mathlib.Core.Path.{◌≡◌, refl, sym, ap, ◌∙◌}
use mathlib.Core.Logic.{◌⊎◌, ◌↔◌}
use native.Mathlib.Omega.{arith}
use native.Mathlib.Decide.{ℕ_discrete}
use lib.Dec.{eqb, ltb, leb}
use lib.ListN.{length, get_or}
use Rattle.definition.specs.Choice.{pick, Test, ◌when◌, first_of}
use Rattle.definition.specs.File.{tag, segments, offset, size, header, keeps, keep_below, head_doors, segment_doors, file_doors, segment_of, place_of, fetch, number_in}
use Rattle.definition.specs.Calls.{check_call}
use Rattle.std.specs.Prelude.{Ok, Err}
use Rattle.definition.specs.declared.Unfetched.TheVariants.{Odd, NoSegment, NoPlace}
use Rattle.definition.proofs.Exactly.{apart, Answers, exactly, none_holds}
use Rattle.definition.proofs.Plain.{◌so◌, ◌and◌, ◌or◌, itself, is_less, not_less, is_most, not_most, is_equal, not_equal, not_true, not_false, both_true, either_true, either_false, failing}
use Rattle.demands.specs.Conditions.{Head, Keeps, Accepted}

-- ---- the segments
keeps_plain : (f : List ℕ) (i : ℕ) → (keeps (header f) (length f) (offset f i) (size f i) ≡ true) ↔ Keeps f i
unfolding keeps
keeps_plain f i =
    both_true so both_true and itself so (is_most and is_most) and is_most
    so (λ w. record { after_header = w.0.0; short = w.0.1; inside = w.1 }, λ k. ((k.after_header, k.short), k.inside))

-- all of those below k keep the rule, or one breaks it
all_keep : (f : List ℕ) (k : ℕ) → (keep_below f k ≡ true) ↔ ((i : ℕ) → i < k → Keeps f i)
unfolding keep_below
all_keep f zero = (λ e i h. absurd (omega arith), λ h. refl)
all_keep f (suc k) =
    both_true so keeps_plain f k and all_keep f k
    so (λ w i h. by i w h (ℕ_discrete i k), λ h. (h k (omega arith), λ i p. h i (omega arith)))
  where
    by : (i : ℕ) → Keeps f k × ((j : ℕ) → j < k → Keeps f j) → i < suc k → Dec (i ≡ k) → Keeps f i
    by i w h (yes e) = rw e w.0
    by i w h (no n) = w.1 i (omega arith)

one_breaks : (f : List ℕ) (k : ℕ) → (keep_below f k ≡ false) ↔ ((i : ℕ) × ((i < k) × (Keeps f i → ⊥)))
unfolding keep_below
one_breaks f zero = (λ e. absurd (apart e), λ w. absurd (let h = w.1.0 in omega arith))
one_breaks f (suc k) = go (keeps (header f) (length f) (offset f k) (size f k)) refl (one_breaks f k)
  where
    by : keep_below f k ≡ true → (i : ℕ) → i < suc k → (Keeps f i → ⊥) → Keeps f k → Dec (i ≡ k) → ⊥
    by all i h n last (yes p) = n (rw p last)
    by all i h n last (no p) = n ((all_keep f k).0 all i (omega arith))

    go : (t : Bool) → keeps (header f) (length f) (offset f k) (size f k) ≡ t
        → (keep_below f k ≡ false) ↔ ((i : ℕ) × ((i < k) × (Keeps f i → ⊥)))
        → (t && keep_below f k ≡ false) ↔ ((i : ℕ) × ((i < suc k) × (Keeps f i → ⊥)))
    go true e ih = (
      λ q. let w = ih.0 q in let h = w.1.0 in (w.0, (omega arith, w.1.1)),
      λ w. failing.1 (λ all. by all w.0 w.1.0 w.1.1 ((keeps_plain f k).0 e) (ℕ_discrete w.0 k)),
    )
    go false e ih = (λ q. (k, (omega arith, λ h. apart (sym ((keeps_plain f k).1 h) ∙ e))), λ w. refl)

-- ---- the check
positive : {n : ℕ} → (n ≡ 0 → ⊥) ↔ (1 ≤ n)
positive {n} = (λ h. go n h, λ h e. omega arith)
  where
    go : (n : ℕ) → (n ≡ 0 → ⊥) → 1 ≤ n
    go zero h = absurd (h refl)
    go (suc n) h = omega arith

module _ (f : List ℕ) where
  pub check_exactly : (n : ℕ) → 0 < n → (check_call f ≡ n) ↔ Answers n (file_doors f)
  unfolding check_call
  check_exactly n p = exactly n (file_doors f) p

  -- the number of segments is 1 to 8, or it is not
  in_count : (eqb (segments f) 0 || ltb 8 (segments f) ≡ false) ↔ ((1 ≤ segments f) × (segments f ≤ 8))
  in_count = either_false so (not_equal so positive) and not_less

  pub check_12 : (check_call f ≡ 12) ↔ ((length f < 2) ⊎ ((2 ≤ length f) × ((tag f ≡ 1) × (((1 ≤ segments f) × (segments f ≤ 8)) × (length f < header f)))))
  unfolding file_doors head_doors segment_doors
  check_12 = check_exactly 12 (omega arith) so is_less or (not_less and (not_false so is_equal) and in_count and is_less)

  pub check_13 : (check_call f ≡ 13) ↔ ((2 ≤ length f) × (tag f ≡ 1 → ⊥))
  unfolding file_doors head_doors segment_doors
  check_13 = check_exactly 13 (omega arith) so not_less and (not_true so not_equal)

  pub check_14 : (check_call f ≡ 14) ↔ ((2 ≤ length f) × ((tag f ≡ 1) × ((segments f ≡ 0) ⊎ (8 < segments f))))
  unfolding file_doors head_doors segment_doors
  check_14 = check_exactly 14 (omega arith) so not_less and (not_false so is_equal) and (either_true so is_equal or is_less)

  -- the four tests of the head, in one
  headed : {G H : Type 0} → G ↔ H
      → ((ltb (length f) 2 ≡ false) × ((not (eqb (tag f) 1) ≡ false) × ((eqb (segments f) 0 || ltb 8 (segments f) ≡ false) × ((ltb (length f) (header f) ≡ false) × G)))) ↔ (Head f × H)
  headed p =
      not_less and (not_false so is_equal) and in_count and not_less and p
      so (λ w. (record { two_words = w.0; tagged = w.1.0; some = w.1.1.0.0; few = w.1.1.0.1; whole = w.1.1.1.0 }, w.1.1.1.1), λ w. (w.0.two_words, (w.0.tagged, ((w.0.some, w.0.few), (w.0.whole, w.1)))))

  pub check_15 : (check_call f ≡ 15) ↔ (Head f × ((i : ℕ) × ((i < segments f) × (Keeps f i → ⊥))))
  unfolding file_doors head_doors segment_doors
  check_15 = check_exactly 15 (omega arith) so headed (not_true so one_breaks f (segments f))

  pub check_0 : (check_call f ≡ 0) ↔ Accepted f
  unfolding check_call file_doors head_doors segment_doors
  check_0 =
      none_holds (file_doors f) refl so headed ((not_false so all_keep f (segments f)) and itself)
      so (λ w. record { head = w.0; each = w.1.0 }, λ a. (a.head, (a.each, tt)))

-- ---- the fetch
module _ (f : List ℕ) (a : ℕ) where
  abbrev tests : List Test
  tests = 21 when not (eqb (a % 2) 0) ∷ 22 when leb (segments f) (segment_of a) ∷ 23 when leb (size f (segment_of a)) (place_of a) ∷ []

  as_tests : number_in (fetch f a) ≡ first_of tests
  unfolding fetch first_of
  as_tests = go (not (eqb (a % 2) 0)) (leb (segments f) (segment_of a)) (leb (size f (segment_of a)) (place_of a))
    where
      go : (t u v : Bool) → number_in (pick t (Err Odd) (pick u (Err NoSegment) (pick v (Err NoPlace) (Ok (get_or f (offset f (segment_of a) + place_of a) 0)))))
          ≡ pick t 21 (pick u 22 (pick v 23 0))
      go true u v = refl
      go false true v = refl
      go false false true = refl
      go false false false = refl

  fetch_exactly : (n : ℕ) → 0 < n → (number_in (fetch f a) ≡ n) ↔ Answers n tests
  fetch_exactly n p = rw as_tests (exactly n tests p)

  pub fetch_21 : (number_in (fetch f a) ≡ 21) ↔ (a % 2 ≡ 0 → ⊥)
  fetch_21 = fetch_exactly 21 (omega arith) so not_true so not_equal

  pub fetch_22 : (number_in (fetch f a) ≡ 22) ↔ ((a % 2 ≡ 0) × (segments f ≤ segment_of a))
  fetch_22 = fetch_exactly 22 (omega arith) so (not_false so is_equal) and is_most

  pub fetch_23 : (number_in (fetch f a) ≡ 23) ↔ ((a % 2 ≡ 0) × ((segment_of a < segments f) × (size f (segment_of a) ≤ place_of a)))
  fetch_23 = fetch_exactly 23 (omega arith) so (not_false so is_equal) and not_most and is_most

  -- a word is fetched in every other case, and it is the one that lies at that place of that segment
  pub fetch_word : (fetch f a ≡ Ok (get_or f (offset f (segment_of a) + place_of a) 0)) ↔ ((a % 2 ≡ 0) × ((segment_of a < segments f) × (place_of a < size f (segment_of a))))
  unfolding fetch
  fetch_word = (λ e. passes.0 (sym as_tests ∙ ap number_in e), λ w. found (passes.1 w))
    where
      passes : (first_of tests ≡ 0) ↔ ((a % 2 ≡ 0) × ((segment_of a < segments f) × (place_of a < size f (segment_of a))))
      passes = none_holds tests refl so (not_false so is_equal) and not_most and not_most and itself so (λ w. (w.0, (w.1.0, w.1.1.0)), λ w. (w.0, (w.1.0, (w.1.1, tt))))

      found : first_of tests ≡ 0 → fetch f a ≡ Ok (get_or f (offset f (segment_of a) + place_of a) 0)
      found z = let n = (none_holds tests refl).0 z in rw (n.0, n.1.0, n.1.1.0)
