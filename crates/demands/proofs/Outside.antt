-- Words outside the header and the segments make no difference.
use Prim.Native.Nat.{ℕ, zero, suc, ◌+◌, ◌*◌, ◌%◌, ◌≤◌, ◌<◌}
use mathlib.Core.Bool.{not}
use mathlib.Core.List.{List, [], ◌∷◌, ◌++◌}
use mathlib.Core.Path.{◌≡◌, refl, sym, ap, ◌∙◌, fun_ext}
use native.Mathlib.Omega.{arith}
use native.Mathlib.Decide.{dec_le}
use lib.Dec.{eqb, leb}
use lib.ListN.{length, get_or, length-append, get_or-append}
use borrow.Author.Tests.{le-leb}
use Rattle.definition.specs.Choice.{pick, first_of}
use Rattle.definition.specs.File.{tag, segments, offset, size, keep_below, head_doors, segment_doors, file_doors, segment_of, place_of, fetch}
use Rattle.definition.specs.Image.{blank}
use Rattle.definition.specs.Machine.{fresh}
use Rattle.definition.specs.Calls.{Lent, plain, check_call, run_doors, run_door, run_call}
use Rattle.definition.specs.Plot.{words_in, input_doors, plot_budget, plot_line}
use Rattle.std.specs.Prelude.{Result, Ok, Err}
use Rattle.definition.specs.declared.Unfetched.{Unfetched}
use Rattle.definition.specs.declared.Unfetched.TheVariants.{Odd, NoSegment, NoPlace}
use Rattle.definition.specs.declared.Machine.{Machine}
use Rattle.definition.proofs.Exactly.{none_holds}
use Rattle.demands.specs.With.{with_file}
use Rattle.demands.specs.Conditions.{Accepted, SameHeader, SameWords}
use Rattle.demands.proofs.FileAnswers.{check_0}

-- ---- the check
module _ (f g : List ℕ) (h : SameHeader f g) where
  same_tag : tag f ≡ tag g
  same_tag = h.same 0 (omega arith)

  same_segments : segments f ≡ segments g
  same_segments = h.same 1 (omega arith)

  same_offset : (i : ℕ) → i < segments f → offset f i ≡ offset g i
  same_offset i p = h.same (2 + 2 * i) (omega arith)

  same_size : (i : ℕ) → i < segments f → size f i ≡ size g i
  same_size i p = h.same (3 + 2 * i) (omega arith)

  same_keep : length f ≡ length g → (k : ℕ) → k ≤ segments f → keep_below f k ≡ keep_below g k
  unfolding keep_below
  same_keep l zero p = refl
  same_keep l (suc i) p = rw (same_keep l i (omega arith), same_offset i p, same_size i p, same_segments, l)

  same_doors : length f ≡ length g → file_doors f ≡ file_doors g
  unfolding file_doors head_doors segment_doors
  same_doors l = rw (same_keep l (segments f) (omega arith), same_tag, same_segments, l)

  pub same_check : length f ≡ length g → check_call f ≡ check_call g
  unfolding check_call
  same_check l = rw (same_doors l)

-- ---- the fetch, and so everything that reads the file by it
module _ (f g : List ℕ) (h : SameWords f g) where
  same_fetch : (a : ℕ) → fetch f a ≡ fetch g a
  unfolding fetch
  same_fetch a = ap (λ (t : Result ℕ Unfetched). pick (not (eqb (a % 2) 0)) (Err Odd) t) (in_segment (dec_le (segments f) (segment_of a)) (dec_le (size f (segment_of a)) (place_of a)))
    where
      in_segment : Dec (segments f ≤ (segment_of a)) → Dec (size f (segment_of a) ≤ place_of a)
          → pick (leb (segments f) (segment_of a)) (Err NoSegment) (pick (leb (size f (segment_of a)) (place_of a)) (Err NoPlace) (Ok (get_or f (offset f (segment_of a) + place_of a) 0)))
          ≡ pick (leb (segments g) (segment_of a)) (Err NoSegment) (pick (leb (size g (segment_of a)) (place_of a)) (Err NoPlace) (Ok (get_or g (offset g (segment_of a) + place_of a) 0)))
      in_segment (yes p) d = rw (← same_segments f g h.headers, le-leb _ _ p)
      in_segment (no p) (yes q) = rw (← same_segments f g h.headers, ← same_size f g h.headers (segment_of a) (omega arith), le-leb _ _ q)
      in_segment (no p) (no q) =
          rw (← same_segments f g h.headers, ← same_size f g h.headers (segment_of a) (omega arith), ← same_offset f g h.headers (segment_of a) (omega arith), h.same (segment_of a) (place_of a) (omega arith) (omega arith))

  same_memory : fetch f ≡ fetch g
  same_memory = fun_ext same_fetch

  -- of one length, accepted or refused
  pub alike_run : length f ≡ length g → (l : Lent) (m : Machine) (im : List ℕ) (b : ℕ) → run_call (with_file l f) m im b ≡ run_call (with_file l g) m im b
  unfolding run_call run_door run_doors
  alike_run e l m im b = rw (same_doors f g h.headers e, same_memory)

  -- both files are accepted, so that their doors are open alike
  module _ (p : Accepted f) (q : Accepted g) (l : Lent) (m : Machine) (im : List ℕ) (b : ℕ) where
    same_door : run_door (with_file l f) m im b ≡ run_door (with_file l g) m im b
    unfolding run_door run_doors check_call file_doors head_doors segment_doors first_of
    same_door =
        let c = (none_holds (file_doors f) refl).0 ((check_0 f).1 p) in
        let d = (none_holds (file_doors g) refl).0 ((check_0 g).1 q) in
        rw (c.0, c.1.0, c.1.1.0, c.1.1.1.0, c.1.1.1.1.0, d.0, d.1.0, d.1.1.0, d.1.1.1.0, d.1.1.1.1.0)

    pub same_run : run_call (with_file l f) m im b ≡ run_call (with_file l g) m im b
    unfolding run_call
    same_run = rw (same_door, same_memory)

-- ---- the line of two inputs of one length
words_length : (cs bs : List ℕ) → length cs ≡ length bs → length (words_in cs) ≡ length (words_in bs)
unfolding words_in
words_length [] [] l = refl
words_length [] (b ∷ bs) l = absurd (omega arith)
words_length (a ∷ cs) [] l = absurd (omega arith)
words_length (a ∷ []) (b ∷ []) l = refl
words_length (a ∷ []) (b ∷ d ∷ bs) l = absurd (omega arith)
words_length (a ∷ c ∷ cs) (b ∷ []) l = absurd (omega arith)
words_length (a ∷ c ∷ cs) (b ∷ d ∷ bs) l = ap suc (words_length cs bs (omega arith))

pub alike_line : (cs bs : List ℕ) → SameWords (words_in cs) (words_in bs) → length cs ≡ length bs → plot_line cs ≡ plot_line bs
unfolding plot_line input_doors run_doors
alike_line cs bs h l =
    let k = words_length cs bs l in
    rw (l, same_doors (words_in cs) (words_in bs) h.headers k, alike_run (words_in cs) (words_in bs) h k (plain (words_in cs)) fresh blank plot_budget)

-- ---- for one: words after the end of an accepted file
module _ (f more : List ℕ) (p : Accepted f) where
  kept : (i : ℕ) → i < length f → get_or f i 0 ≡ get_or (f ++ more) i 0
  kept i l = sym (get_or-append f more 0 i l)

  headed : SameHeader f (f ++ more)
  headed = record { same = λ i l. let h = p.head.whole in kept i (omega arith) }

  pub appended_same : SameWords f (f ++ more)
  appended_same = record { headers = headed; same = λ i k l n. let h = (p.each i l).inside in kept (offset f i + k) (omega arith) }

  pub appended_accepted : Accepted (f ++ more)
  appended_accepted =
      let l = length-append f more in
      let e = same_segments f (f ++ more) headed in
      let h = p.head in
      record {
        head = record { two_words = let a = h.two_words in omega arith; tagged = sym (same_tag f (f ++ more) headed) ∙ h.tagged; some = let a = h.some in omega arith; few = let a = h.few in omega arith; whole = let a = h.whole in omega arith };
        each = λ i n.
            let k = p.each i (omega arith) in
            let o = same_offset f (f ++ more) headed i (omega arith) in
            let s = same_size f (f ++ more) headed i (omega arith) in
            let a = k.after_header in
            let b = k.short in
            let c = k.inside in
            record { after_header = omega arith; short = omega arith; inside = omega arith };
      }

  pub appended_run : (l : Lent) (m : Machine) (im : List ℕ) (b : ℕ) → run_call (with_file l f) m im b ≡ run_call (with_file l (f ++ more)) m im b
  appended_run l m im b = same_run f (f ++ more) appended_same p appended_accepted l m im b
