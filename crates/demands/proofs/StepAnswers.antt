-- The answers of a step, each exactly when.
use Prim.Native.Nat.{ℕ, ◌≤◌, ◌<◌, ◌/◌, ◌%◌, ◌^◌}
use mathlib.Core.Bool.{Bool, true, false, not}
use mathlib.Core.List.{List, [], ◌∷◌, ◌++◌}
use mathlib.Core.Path.{◌≡◌, refl, sym, ap, ◌∙◌}
use mathlib.Core.Logic.{◌⊎◌, inl, inr, ⊎_elim, ◌↔◌}
use native.Mathlib.Omega.{arith}
use native.Mathlib.Decide.{ℕ_discrete}
use lib.Dec.{eqb}
use borrow.Author.Tests.{eq-eqb, eqb-true, leb-true}
use Rattle.definition.specs.Choice.{pick, among, Test, first_of, only_if}
use Rattle.definition.specs.File.{number_in, fetch_refusals}
use Rattle.definition.specs.Words.{bit, code, sets_mode, order, decode, is_paired, has_second, first_refusals, second_refusals}
use Rattle.definition.specs.Machine.{refusal_numbers}
use Rattle.definition.specs.Step.{Change, changed, leaves, ordered, done, Given, first, second, instruction, way_refusals, refusals, refusal, Step, step}
use Rattle.definition.specs.Step.Change.{Stay, Set, Move}
use Rattle.definition.specs.declared.Units.{Units}
use Rattle.definition.specs.declared.Machine.{Machine}
use Rattle.std.specs.Prelude.{Result, Ok, Err}
use Rattle.definition.specs.declared.Unfetched.{Unfetched}
use Rattle.definition.specs.declared.Unfetched.TheVariants.{Odd, NoSegment, NoPlace}
use Rattle.definition.specs.declared.Instruction.{Instruction}
use Rattle.definition.specs.declared.Order.{Order}
use Rattle.definition.specs.declared.Order.TheVariants.{SetMode, Jump, NoOp, StatusA, Increment, StatusC}
use Rattle.definition.proofs.Answers.{refusal_is}
use Rattle.definition.proofs.Exactly.{apart, names, exactly, none_holds, in_either, in_later, in_first, asked_if}
use Rattle.definition.proofs.Plain.{◌so◌, ◌and◌, ◌or◌, itself, back, is_equal, not_equal, not_true, not_false, either_true, either_false, failing, never, implies, ◌nor◌, last}
use Rattle.demands.specs.Conditions.{InRange, Fits, On, NotBuilt, NoMode, BadCode, FirstRefused, Pair, TwoWords, SecondRefused, word, more, Begins, Continues, FetchRefused, taken, new_x, new_y, Stops, stop_number, LatchIs}
use Rattle.definition.proofs.StepLaws.{pick_keeps, step_done, step_refused}
use Rattle.demands.proofs.Kept.{in_range_is}
use Rattle.demands.proofs.WordAnswers.{is_off, not_built_is, no_mode, bad_code, status_a_allowed, is_pair, has_second_is, is_status_a}

wrong : {A : Type 0} → ◌≡◌ {A = Bool} true false → A
wrong e = absurd (apart e)

-- ---- a group of tests: a fetch's, and one that is asked only where t holds
by_fetch : (got : Result ℕ Unfetched) → first_of (fetch_refusals got) ≡ number_in got
unfolding first_of fetch_refusals
by_fetch (Ok w) = refl
by_fetch (Err Odd) = refl
by_fetch (Err NoSegment) = refl
by_fetch (Err NoPlace) = refl

fetch_is : (got : Result ℕ Unfetched) {n : ℕ} → (first_of (fetch_refusals got) ≡ n) ↔ (number_in got ≡ n)
fetch_is got = (λ q. sym (by_fetch got) ∙ q, λ q. by_fetch got ∙ q)

passes_if : (t : Bool) (ts : List Test) → (first_of (only_if t ts) ≡ 0) ↔ (t ≡ true → first_of ts ≡ 0)
passes_if t ts = rw (asked_if t ts) (go t)
  where
    go : (t : Bool) → (pick t (first_of ts) 0 ≡ 0) ↔ (t ≡ true → first_of ts ≡ 0)
    go true = (λ q e. q, λ h. h refl)
    go false = (λ q e. wrong (sym e), λ h. refl)

answers_if : (t : Bool) (ts : List Test) (n : ℕ) → 0 < n → (first_of (only_if t ts) ≡ n) ↔ ((t ≡ true) × (first_of ts ≡ n))
answers_if t ts n p = rw (asked_if t ts) (go t)
  where
    go : (t : Bool) → (pick t (first_of ts) 0 ≡ n) ↔ ((t ≡ true) × (first_of ts ≡ n))
    go true = (λ q. (refl, q), λ w. w.1)
    go false = (λ q. absurd (omega arith), λ w. wrong (sym w.0))

-- ---- 27 for a coordinate in range
leaving : {u : Units} (c : Change) → InRange u → (leaves u c ≡ true) ↔ (InRange (changed u c) → ⊥)
leaving Stay r = (λ e. wrong (sym e), λ h. absurd (h r))
leaving (Set v) r = not_true so failing so never in_range_is
leaving (Move d) r = not_true so failing so never in_range_is

staying : {u : Units} (c : Change) → InRange u → (leaves u c ≡ false) ↔ InRange (changed u c)
staying Stay r = (λ e. r, λ h. refl)
staying (Set v) r = not_false so in_range_is
staying (Move d) r = not_false so in_range_is

-- ---- the refusals of a step, number by number
module _ (g : Given) (m : Machine) where
  abbrev w : ℕ
  w = word g m

  abbrev v : ℕ
  v = more g m

  abbrev i : Instruction
  i = instruction g m

  -- the groups: first fetch, first word, second fetch, second word, move
  abbrev fetch1 : List Test
  fetch1 = fetch_refusals (first g m)

  abbrev word1 : List Test
  word1 = first_refusals m.mode w

  abbrev fetch2 : List Test
  fetch2 = only_if (has_second i) (fetch_refusals (second g m))

  abbrev word2 : List Test
  word2 = only_if (is_paired i) (second_refusals v)

  abbrev going : List Test
  going = way_refusals m (taken g m) ++ []

  -- what it says of a group that none of its tests holds
  word_passes : (first_of word1 ≡ 0) ↔ (FirstRefused m.mode w → ⊥)
  unfolding first_refusals
  word_passes = none_holds word1 refl so not_built_is w nor no_mode m.mode w nor last (bad_code m.mode w)

  more_passes : (first_of fetch2 ≡ 0) ↔ (TwoWords m.mode w → number_in (second g m) ≡ 0)
  more_passes = passes_if (has_second i) (fetch_refusals (second g m)) so implies (has_second_is m.mode w) (fetch_is (second g m))

  pair_passes : (first_of word2 ≡ 0) ↔ (Pair m.mode w → SecondRefused v → ⊥)
  unfolding second_refusals
  pair_passes = passes_if (is_paired i) (second_refusals v) so implies (is_pair m.mode w) (none_holds (second_refusals v) refl so last is_equal)

  -- up to the second fetch, and from there to the move; n is no number of what is passed
  past_first : (n : ℕ) → names n fetch1 ≡ false → names n word1 ≡ false → (refusal g m ≡ n) ↔ (Begins g m × (first_of (fetch2 ++ (word2 ++ going)) ≡ n))
  unfolding refusal refusals fetch_refusals first_refusals
  past_first n k l =
      in_later n fetch1 (word1 ++ (fetch2 ++ (word2 ++ going))) refl k
      so fetch_is (first g m) and (in_later n word1 (fetch2 ++ (word2 ++ going)) refl l so word_passes and itself)
      so (λ q. (record { fetched = q.0; allowed = q.1.0 }, q.1.1), λ q. (q.0.fetched, (q.0.allowed, q.1)))

  past_second : (n : ℕ) → names n fetch1 ≡ false → names n word1 ≡ false → names n fetch2 ≡ false → names n word2 ≡ false → (refusal g m ≡ n) ↔ (Continues g m × (first_of going ≡ n))
  unfolding fetch_refusals second_refusals
  past_second n k l p q =
      past_first n k l
      so itself and (in_later n fetch2 (word2 ++ going) refl p so more_passes and (in_later n word2 going refl q so pair_passes and itself))
      so (λ w. (record { begins = w.0; fetched = w.1.0; allowed = w.1.1.0 }, w.1.1.1), λ w. (w.0.begins, (w.0.fetched, (w.0.allowed, w.1))))

  -- a number of fetches; and a number of first words
  by_a_fetch : (n : ℕ) → 0 < n → names n word1 ≡ false → names n (word2 ++ going) ≡ false → (refusal g m ≡ n) ↔ FetchRefused n g m
  unfolding refusal refusals fetch_refusals first_refusals
  by_a_fetch n p k l =
      in_either n fetch1 (word1 ++ (fetch2 ++ (word2 ++ going))) refl p
      so fetch_is (first g m)
      or (fetch_is (first g m) and (in_later n word1 (fetch2 ++ (word2 ++ going)) refl k so word_passes and (in_first n fetch2 (word2 ++ going) refl p l so answers_if (has_second i) (fetch_refusals (second g m)) n p so has_second_is m.mode w and fetch_is (second g m)))
      so (λ q. (record { fetched = q.0; allowed = q.1.0 }, q.1.1), λ q. (q.0.fetched, (q.0.allowed, q.1))))

  by_a_word : (n : ℕ) → 0 < n → names n fetch1 ≡ false → names n (fetch2 ++ (word2 ++ going)) ≡ false → (refusal g m ≡ n) ↔ ((number_in (first g m) ≡ 0) × (first_of word1 ≡ n))
  unfolding refusal refusals fetch_refusals first_refusals
  by_a_word n p k l = in_later n fetch1 (word1 ++ (fetch2 ++ (word2 ++ going))) refl k so fetch_is (first g m) and in_first n word1 (fetch2 ++ (word2 ++ going)) refl p l

  -- ---- number by number
  pub refused_21 : (refusal g m ≡ 21) ↔ FetchRefused 21 g m
  unfolding fetch_refusals first_refusals second_refusals way_refusals
  refused_21 = by_a_fetch 21 (omega arith) refl refl

  pub refused_22 : (refusal g m ≡ 22) ↔ FetchRefused 22 g m
  unfolding fetch_refusals first_refusals second_refusals way_refusals
  refused_22 = by_a_fetch 22 (omega arith) refl refl

  pub refused_23 : (refusal g m ≡ 23) ↔ FetchRefused 23 g m
  unfolding fetch_refusals first_refusals second_refusals way_refusals
  refused_23 = by_a_fetch 23 (omega arith) refl refl

  pub refused_24 : (refusal g m ≡ 24) ↔ ((number_in (first g m) ≡ 0) × NotBuilt w)
  unfolding fetch_refusals first_refusals second_refusals way_refusals
  refused_24 = by_a_word 24 (omega arith) refl refl so itself and (exactly 24 word1 (omega arith) so not_built_is w)

  pub refused_25 : (refusal g m ≡ 25) ↔ ((number_in (first g m) ≡ 0) × NoMode m.mode w)
  unfolding fetch_refusals first_refusals second_refusals way_refusals
  refused_25 =
      by_a_word 25 (omega arith) refl refl so itself and (exactly 25 word1 (omega arith) so (failing so never (not_built_is w)) and no_mode m.mode w)
      so itself and (λ q. q.1, λ q. (λ b. let on = b.0 in let off = q.0 in omega arith, q))

  pub refused_32 : (refusal g m ≡ 32) ↔ ((number_in (first g m) ≡ 0) × BadCode m.mode w)
  unfolding fetch_refusals first_refusals second_refusals way_refusals
  refused_32 =
      by_a_word 32 (omega arith) refl refl
      so itself and (exactly 32 word1 (omega arith) so (failing so never (not_built_is w)) and (failing so never (no_mode m.mode w)) and bad_code m.mode w)
      so itself and (λ q. q.1.1, λ q. (λ b. let on = b.0 in let off = q.0 in omega arith, (λ b. let e = b.1 in let z = q.1.0 in omega arith, q)))

  pub refused_26 : (refusal g m ≡ 26) ↔ (Begins g m × ((number_in (second g m) ≡ 0) × (Pair m.mode w × On 15 v)))
  unfolding fetch_refusals first_refusals second_refusals way_refusals
  refused_26 =
      past_first 26 refl refl
      so itself and (in_later 26 fetch2 (word2 ++ going) refl refl so more_passes and (in_first 26 word2 going refl (omega arith) refl so answers_if (is_paired i) (second_refusals v) 26 (omega arith) so is_pair m.mode w and (exactly 26 (second_refusals v) (omega arith) so is_equal)))
      so itself and (λ q. (q.0 (inr q.1.0), q.1), λ q. (λ e. q.0, q.1))

  pub refused_27 : Fits m → (refusal g m ≡ 27) ↔ (Continues g m × ((InRange (new_x g m) → ⊥) ⊎ (InRange (new_y g m) → ⊥)))
  unfolding fetch_refusals first_refusals second_refusals way_refusals
  refused_27 f = past_second 27 refl refl refl refl so itself and (exactly 27 going (omega arith) so either_true so leaving (taken g m).x f.x or leaving (taken g m).y f.y)

  -- and no refusal: the step completes
  pub refused_0 : Fits m → (refusal g m ≡ 0) ↔ (Continues g m × (InRange (new_x g m) × InRange (new_y g m)))
  unfolding fetch_refusals first_refusals second_refusals way_refusals
  refused_0 f =
      past_second 0 refl refl refl refl
      so itself and (none_holds going refl so (either_false so staying (taken g m).x f.x and staying (taken g m).y f.y) and itself so (λ q. q.0, λ q. (q, tt)))

-- ---- the status after a step of a running machine: what it is refused for, or how it stops
-- the status that an instruction leaves
abbrev stopped : Machine → Order → ℕ
stopped m (SetMode b) = m.status
stopped m Jump = m.status
stopped m NoOp = m.status
stopped m (StatusA b) = pick b.stops (pick (pick b.loads b.latch m.latch) 2 1) m.status
stopped m (Increment b) = m.status
stopped m (StatusC b) = m.status

ordered_status : (m : Machine) (o : Order) → (ordered m o).status ≡ stopped m o
unfolding ordered
ordered_status m (SetMode b) = refl
ordered_status m Jump = refl
ordered_status m NoOp = refl
ordered_status m (StatusA b) = refl
ordered_status m (Increment b) = refl
ordered_status m (StatusC b) = refl

-- an order that stops: a status A of code 14
order_stops : (m : Machine) (w n : ℕ) → m.status ≡ 0 → (n ≡ 0 → ⊥)
    → (stopped m (order w) ≡ n) ↔ ((code w ≡ 14) × (pick (bit 10 w) (pick (pick (bit 9 w) (bit 8 w) m.latch) 2 1) m.status ≡ n))
unfolding order sets_mode
order_stops m w n z p =
    pick_keeps P (sets_mode (code w)) (λ e. other (λ q. let l = leb-true (code w) 6 e in omega arith))
    λ a. pick_keeps P (eqb (code w) 12) (λ e. let c = eqb-true (code w) 12 e in other (λ q. omega arith))
    λ b. pick_keeps P (eqb (code w) 13) (λ e. let c = eqb-true (code w) 13 e in other (λ q. omega arith))
    λ c. pick_keeps P (eqb (code w) 14) (λ e. (λ h. (is_equal.0 e, h), λ q. q.1))
    λ d. let o = not_equal.0 d in pick_keeps P (bit 10 w) (λ e. other o) (λ e. other o)
  where
    P : Order → Type 0
    P o = (stopped m o ≡ n) ↔ ((code w ≡ 14) × (pick (bit 10 w) (pick (pick (bit 9 w) (bit 8 w) m.latch) 2 1) m.status ≡ n))

    other : {A : Type 0} → (code w ≡ 14 → ⊥) → (m.status ≡ n) ↔ ((code w ≡ 14) × A)
    other h = (λ e. absurd (p (sym e ∙ z)), λ q. absurd (h q.0))

-- the latch as it stands after the word
bit_is : (b : Bool) (n : ℕ) → (eqb (n % 2) 1 ≡ b) ↔ pick b (n % 2 ≡ 1) (n % 2 ≡ 0)
bit_is true n = is_equal
bit_is false n = back not_true so is_off n

latch_is : (b : Bool) (m : Machine) (w : ℕ) → (pick (bit 9 w) (bit 8 w) m.latch ≡ b) ↔ LatchIs b m w
latch_is b m w = go b (bit 9 w) refl
  where
    go : (b t : Bool) → bit 9 w ≡ t → (pick t (bit 8 w) m.latch ≡ b) ↔ LatchIs b m w
    go true true e = let on = is_equal.0 e in bit_is true (w / 2 ^ 8) so (λ h. inl (on, h), ⊎_elim (λ q. q.1) (λ q. absurd (let o = q.0 in omega arith)))
    go false true e = let on = is_equal.0 e in bit_is false (w / 2 ^ 8) so (λ h. inl (on, h), ⊎_elim (λ q. q.1) (λ q. absurd (let o = q.0 in omega arith)))
    go b false e = let o = (bit_is false (w / 2 ^ 9)).0 e in (λ h. inr (o, h), ⊎_elim (λ q. absurd (let on = q.0 in omega arith)) (λ q. q.1))

-- a stop is 2 where the latch is on, and 1 where it is off
stop_is : (b s l : Bool) (z : ℕ) → z ≡ 0 → (pick s (pick l 2 1) z ≡ stop_number b) ↔ ((s ≡ true) × (l ≡ b))
stop_is true true true z e = (λ q. (refl, refl), λ q. refl)
stop_is true true false z e = (λ q. absurd (omega arith), λ q. wrong (sym q.1))
stop_is true false l z e = (λ q. absurd (omega arith), λ q. wrong (sym q.0))
stop_is false true true z e = (λ q. absurd (omega arith), λ q. wrong q.1)
stop_is false true false z e = (λ q. (refl, refl), λ q. refl)
stop_is false false l z e = (λ q. absurd (omega arith), λ q. wrong (sym q.0))

stop_small : (s l : Bool) (z : ℕ) → z ≡ 0 → pick s (pick l 2 1) z ≤ 2
stop_small true true z e = omega arith
stop_small true false z e = omega arith
stop_small false l z e = omega arith

stop_some : (b : Bool) → stop_number b ≡ 0 → ⊥
stop_some true e = omega arith
stop_some false e = omega arith

module _ (g : Given) (m : Machine) (f : Fits m) (running : m.status ≡ 0) where
  abbrev status : ℕ
  status = (step g m).machine.status

  -- an instruction that is not refused leaves a stop only as an order
  done_status : (n : ℕ) → (n ≡ 0 → ⊥) → ((done m (decode m.mode (word g m)) (more g m)).status ≡ n) ↔ (On 15 (word g m) × (stopped m (order (word g m)) ≡ n))
  unfolding decode done
  done_status n p =
      pick_keeps (λ i. ((done m i (more g m)).status ≡ n) ↔ (On 15 (word g m) × (stopped m (order (word g m)) ≡ n))) (bit 15 (word g m))
      (λ e. let on = eqb-true (word g m / 2 ^ 15 % 2) 1 e in (λ h. (on, sym (ordered_status m (order (word g m))) ∙ h), λ q. ordered_status m (order (word g m)) ∙ q.1))
      (λ e. (λ h. absurd (p (sym h ∙ running)), λ q. wrong (sym (eq-eqb _ _ q.0) ∙ e)))

  -- a stop is not refused
  free_stop : number_in (first g m) ≡ 0 → On 15 (word g m) → code (word g m) ≡ 14 → refusal g m ≡ 0
  free_stop z on c =
      let e = is_status_a m.mode (word g m) on c in
      (refused_0 g m f).1 (
        record {
          begins = record { fetched = z; allowed = status_a_allowed m.mode (word g m) on c };
          fetched = λ q. absurd (⊎_elim (λ h. let k = h.1 in omega arith) (λ h. let o = h.0 in omega arith) q);
          allowed = λ q. absurd (let o = q.0 in omega arith);
        },
        (rw e f.x, rw e f.y),
      )

  completed_status : refusal g m ≡ 0 → status ≡ (done m (decode m.mode (word g m)) (more g m)).status
  completed_status z = ap (λ (t : Step). t.machine.status) (step_done g m z)

  refused_status : (refusal g m ≡ 0 → ⊥) → status ≡ refusal g m
  refused_status h = ap (λ (t : Step). t.machine.status) (step_refused g m h)

  -- a status above 2 is what the step is refused for
  pub above_two : (n : ℕ) → 2 < n → (status ≡ n) ↔ (refusal g m ≡ n)
  above_two n p = go (ℕ_discrete (refusal g m) 0)
    where
      go : Dec (refusal g m ≡ 0) → (status ≡ n) ↔ (refusal g m ≡ n)
      go (yes z) = (
        λ q.
            let c = (done_status n (λ e. omega arith)).0 (sym (completed_status z) ∙ q) in
            let d = ((order_stops m (word g m) n running (λ e. omega arith)).0 c.1).1 in
            let k = stop_small (bit 10 (word g m)) (pick (bit 9 (word g m)) (bit 8 (word g m)) m.latch) m.status running in
            absurd (omega arith),
        λ q. absurd (omega arith),
      )
      go (no h) = (λ q. sym (refused_status h) ∙ q, λ q. refused_status h ∙ q)

  -- ---- a stop
  pub step_stops : (b : Bool) → (status ≡ stop_number b) ↔ ((number_in (first g m) ≡ 0) × (Stops (word g m) × LatchIs b m (word g m)))
  step_stops b = (λ q. there q (ℕ_discrete (refusal g m) 0), λ q. completed_status (free_stop q.0 q.1.0.0 q.1.0.1.0) ∙ chain.1 q.1)
    where
      chain : ((done m (decode m.mode (word g m)) (more g m)).status ≡ stop_number b) ↔ (Stops (word g m) × LatchIs b m (word g m))
      chain =
          done_status (stop_number b) (stop_some b)
          so itself and (order_stops m (word g m) (stop_number b) running (stop_some b) so itself and (stop_is b _ _ m.status running so is_equal and latch_is b m (word g m)))
          so (λ q. ((q.0, (q.1.0, q.1.1.0)), q.1.1.1), λ q. (q.0.0, (q.0.1.0, (q.0.1.1, q.1))))

      no_refusal : (b : Bool) → not (among (stop_number b) (0 ∷ refusal_numbers)) ≡ true
      no_refusal true = refl
      no_refusal false = refl

      there : status ≡ stop_number b → Dec (refusal g m ≡ 0) → (number_in (first g m) ≡ 0) × (Stops (word g m) × LatchIs b m (word g m))
      there q (yes z) = (((refused_0 g m f).0 z).0.begins.fetched, chain.0 (sym (completed_status z) ∙ q))
      there q (no h) = wrong (sym (rw (sym (refused_status h) ∙ q) at (refusal_is g m)) ∙ not_true.0 (no_refusal b))
