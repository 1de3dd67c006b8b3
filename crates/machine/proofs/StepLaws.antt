-- The cases of a step, a law for each: what the fetches and the words were, and the definition's step.
use Prim.Native.Nat.{ℕ}
use mathlib.Core.Bool.{Bool, true, false, not, ◌&&◌, ◌||◌}
use mathlib.Core.List.{List, [], ◌++◌}
use mathlib.Core.Path.{◌≡◌, refl, sym, ap, subst, ◌∙◌}
use lib.Dec.{eqb}
use lib.IntN.{pos, negsuc}
use lib.Signed.{le_z, ◌≤ℤ◌}
use borrow.Author.Tests.{ne_eqb}
use Rattle.whole.specs.Parts.{whole}
use Rattle.definition.specs.Choice.{pick, Test, first_of}
use Rattle.definition.specs.Image.{left, stores}
use Rattle.std.specs.Prelude.{Result, Ok, Err}
use Rattle.definition.specs.Refusal.{refusal_number}
use Rattle.definition.specs.File.{word_in, number_of, number_in, fetch_refusals}
use Rattle.definition.specs.Words.{bit, bits, long, coordinate, first_code, second_code, item, is_lit, decode, jumps, paired, is_code, first_refusals, second_refusals}
use Rattle.definition.specs.Machine.{with_counter, in_range}
use Rattle.definition.specs.Step.{way, point_at, vector_by, leaves, item_way, item_pixels, ordered, done, Given, first, second, instruction, way_refusals, refusals, refusal, Step, completes, refuses, step}
use Rattle.definition.specs.Step.Change.{Set, Move}
use Rattle.definition.specs.Calls.{lending, plain, given}
use Rattle.definition.specs.declared.Units.{Units}
use Rattle.definition.specs.declared.Machine.{Machine}
use Rattle.definition.specs.declared.Unfetched.{Unfetched}
use Rattle.definition.specs.declared.Unfetched.TheVariants.{Odd, NoSegment, NoPlace}
use Rattle.definition.specs.declared.Refusal.{Refusal}
use Rattle.definition.specs.declared.Order.{Order}
use Rattle.definition.specs.declared.Order.TheVariants.{SetMode, Jump, NoOp, StatusA, Increment, StatusC}
use Rattle.definition.specs.declared.Item.{Item}
use Rattle.definition.specs.declared.Item.TheVariants.{LongVector, AbsolutePoint, Characters}
use Rattle.definition.specs.declared.Instruction.{Instruction}
use Rattle.definition.specs.declared.Instruction.TheVariants.{Does, Draws}
use Rattle.definition.proofs.Exactly.{apart, passes, stops, fails}
use Rattle.definition.proofs.Refusals.{some_number}
use Rattle.definition.proofs.Plain.{not_false, both_true, is_most_z}
use Rattle.definition.proofs.StepLaws.{pick_keeps}
use Rattle.outcome.specs.Outcome.{told, stepped, put_off, completed}
use Rattle.outcome.specs.declared.Stepped.{Stepped}
use Rattle.outcome.proofs.PutOffLaws.{refused_now}
use Rattle.items.specs.Goes.{kept, placed, goes}
use Rattle.machine.specs.Fetches.{Firsts, Seconds}
use Rattle.machine.specs.Rest.{Drawable, rest_refusals, rest, draws_letters, later, later_step, passed_by}

-- a step that lights no pixel leaves the image
dark : (m : Machine) (im : List ℕ) {t s : Step} {r : Stepped} → t.pixels ≡ [] → r ≡ told t → t ≡ s → left r im ≡ stepped m im s
unfolding stepped stores
dark m im {t} {s} {r} n er e =
    let z : s.pixels ≡ [] = ap (λ (u : Step). u.pixels) (sym e) ∙ n in
    rw (er ∙ ap told e, z)

-- ---- what a fetch is refused for
fetch_number : (got : Result ℕ Unfetched) → first_of (fetch_refusals got) ≡ number_in got
unfolding first_of fetch_refusals
fetch_number (Ok w) = refl
fetch_number (Err Odd) = refl
fetch_number (Err NoSegment) = refl
fetch_number (Err NoPlace) = refl

-- a fetch that is refused answers with its number, whatever is asked after it
not_fetched : {got : Result ℕ Unfetched} {why : Unfetched} (r : Refusal) (ts : List Test) → got ≡ Err why → refusal_number r ≡ number_of why → first_of (fetch_refusals got ++ ts) ≡ refusal_number r
not_fetched {got} {why} r ts e en =
    let n : first_of (fetch_refusals got) ≡ refusal_number r = fetch_number got ∙ ap number_in e ∙ sym en in
    stops (fetch_refusals got) ts (λ q. some_number r (sym n ∙ q)) ∙ n

module _ (g : Given) (m : Machine) where
  step_for : (n : ℕ) → refusal g m ≡ n → (n ≡ 0 → ⊥) → refuses m n ≡ step g m
  unfolding step
  step_for n e h = rw (e, ne_eqb n 0 h)

  rest_for : (i : Instruction) (n : ℕ) → first_of (rest_refusals m i (second g m)) ≡ n → (n ≡ 0 → ⊥) → refuses m n ≡ rest g m i
  unfolding rest
  rest_for i n e h = rw (e, ne_eqb n 0 h)

-- ---- items, once 27 is all that is left to ask
by_27 : (m : Machine) (t : Bool) (s : Step) → pick t (refuses m 27) s ≡ pick (eqb (pick t 27 0) 0) s (refuses m (pick t 27 0))
by_27 m true s = refl
by_27 m false s = refl

item_goes : (g : Given) (m : Machine) (lit : Bool) (it : Item)
    → first_of (rest_refusals m (Draws lit it) (second g m)) ≡ first_of (way_refusals m (item_way m.increment it (word_in (second g m))))
    → goes m lit (item_way m.increment it (word_in (second g m))) (item_pixels g m it (word_in (second g m))) (paired it) ≡ rest g m (Draws lit it)
unfolding rest goes placed kept done way_refusals first_of
item_goes g m lit it e =
    rw e (
    by_27 m (leaves m.x (item_way m.increment it (word_in (second g m))).x || leaves m.y (item_way m.increment it (word_in (second g m))).y)
    (completes g m (Draws lit it) (word_in (second g m)))
    )

one_word : (g : Given) (m : Machine) (lit : Bool) (it : Item) → paired it ≡ false
    → goes m lit (item_way m.increment it (word_in (second g m))) (item_pixels g m it (word_in (second g m))) false ≡ rest g m (Draws lit it)
unfolding rest_refusals first_of fetch_refusals second_refusals way_refusals
one_word g m lit it p =
    ap (goes m lit (item_way m.increment it (word_in (second g m))) (item_pixels g m it (word_in (second g m)))) (sym p)
    ∙ item_goes g m lit it (rw p)

-- what draws no characters is not put off
now : (set : List ℕ) (m : Machine) (i : Instruction) (t : Step) → draws_letters i ≡ false → later set m i t ≡ t
unfolding put_off
now set m i t n = ap (λ (b : Bool). put_off b set m t) n

module _ (set : List ℕ) (g : Given) (m : Machine) (im : List ℕ) (lit : Bool) (it : Item) {it' : Item} (e : it ≡ it') {r : Stepped} {im' : List ℕ} where
  pub two_done : (h : Given) → rest h m (Draws lit it') ≡ rest g m (Draws lit it') → draws_letters (Draws lit it') ≡ false
      → left r im' ≡ stepped m im (rest h m (Draws lit it')) → left r im' ≡ stepped m im (later set m (Draws lit it) (rest g m (Draws lit it)))
  two_done h same n er =
      er
      ∙ ap (stepped m im) (same ∙ sym (now set m (Draws lit it') (rest g m (Draws lit it')) n))
      ∙ ap (λ (i : Item). stepped m im (later set m (Draws lit i) (rest g m (Draws lit i)))) (sym e)

  pub one_done : paired it' ≡ false → draws_letters (Draws lit it') ≡ false
      → left r im' ≡ stepped m im (goes m lit (item_way m.increment it' (word_in (second g m))) (item_pixels g m it' (word_in (second g m))) false)
      → left r im' ≡ stepped m im (later set m (Draws lit it) (rest g m (Draws lit it)))
  one_done p n er = two_done g refl n (er ∙ ap (stepped m im) (one_word g m lit it' p))

-- characters, which are lit
module _ (set : List ℕ) (g : Given) (m : Machine) (im : List ℕ) (lit : Bool) (it : Item) {first second : ℕ} (e : it ≡ Characters first second) (fine : Drawable lit (Characters first second)) {r : Stepped} {im' : List ℕ} where
  pub characters_done : left r im' ≡ stepped m im (put_off true set m (goes m true (item_way m.increment (Characters first second) 0) (item_pixels g m (Characters first second) 0) false))
      → left r im' ≡ stepped m im (later set m (Draws lit it) (rest g m (Draws lit it)))
  characters_done er =
      er
      ∙ ap (λ (l : Bool). stepped m im (put_off true set m (goes m l (item_way m.increment (Characters first second) 0) (item_pixels g m (Characters first second) 0) false))) (sym fine.0)
      ∙ ap (λ (t : Step). stepped m im (put_off true set m t)) (one_word g m lit (Characters first second) refl)
      ∙ ap (λ (i : Item). stepped m im (later set m (Draws lit i) (rest g m (Draws lit i)))) (sym e)

-- ---- what does not depend on the lent set: an order, and an item of two words
module _ (f set : List ℕ) (m : Machine) where
  pub order_alone : (o : Order) → rest (given (plain f)) m (Does o) ≡ rest (given (lending f set)) m (Does o)
  unfolding rest
  order_alone o = refl

  module _ (lit : Bool) (x : Units) where
    pub long_alone : rest (given (plain f)) m (Draws lit (LongVector x)) ≡ rest (given (lending f set)) m (Draws lit (LongVector x))
    unfolding rest
    long_alone = refl

    pub absolute_alone : rest (given (plain f)) m (Draws lit (AbsolutePoint x)) ≡ rest (given (lending f set)) m (Draws lit (AbsolutePoint x))
    unfolding rest
    absolute_alone = refl

-- ---- orders
module _ (g : Given) (m : Machine) where
  -- an order of one word is not refused
  order_done : (o : Order) → jumps o ≡ false → {n : Machine} {r : Stepped} → n ≡ ordered m o → r ≡ passed_by n → r ≡ told (rest g m (Does o))
  unfolding rest rest_refusals first_of fetch_refusals second_refusals way_refusals done ordered
  order_done (SetMode b) j en er = rw (er, en)
  order_done Jump j en er = absurd (apart j)
  order_done NoOp j en er = rw (er, en)
  order_done (StatusA b) j en er = rw (er, en)
  order_done (Increment b) j en er = rw (er, en)
  order_done (StatusC b) j en er = rw (er, en)

  pub obeyed : (o : Order) {o' : Order} → o ≡ o' → jumps o' ≡ false → {n : Machine} {r : Stepped} → n ≡ ordered m o' → r ≡ passed_by n → r ≡ told (rest g m (Does o))
  obeyed o {o'} e j en er = rw e (order_done o' j en er)

  pub obeyed_no_op : (o : Order) → o ≡ NoOp → {r : Stepped} → r ≡ passed_by m → r ≡ told (rest g m (Does o))
  unfolding ordered
  obeyed_no_op o e er = obeyed o e refl refl er

  -- and none lights a pixel
  order_dark : (o : Order) → (rest g m (Does o)).pixels ≡ []
  unfolding rest
  order_dark o = pick_keeps (λ (t : Step). t.pixels ≡ []) (eqb (first_of (rest_refusals m (Does o) (second g m))) 0) (λ e. refl) (λ e. refl)

  module _ {got : Result ℕ Unfetched} (eg : got ≡ second g m) where
    pub jump_ends : {why : Unfetched} (n : Refusal) → got ≡ Err why → refusal_number n ≡ number_of why → {r : Stepped} → r ≡ told (refuses m (refusal_number n)) → r ≡ told (rest g m (Does Jump))
    unfolding rest_refusals fetch_refusals
    jump_ends n e en er = er ∙ ap told (rest_for g m (Does Jump) (refusal_number n) (not_fetched n _ (sym eg ∙ e) en) (some_number n))

    pub jump_done : {v : ℕ} → got ≡ Ok v → {r : Stepped} → r ≡ completed (with_counter m v) 2 0 → r ≡ told (rest g m (Does Jump))
    unfolding rest rest_refusals first_of fetch_refusals second_refusals way_refusals done ordered
    jump_done e er = rw (← eg, e, er)

    -- ---- the second word of a long vector or an absolute point
    pub second_not_fetched : {why : Unfetched} (n : Refusal) → got ≡ Err why → refusal_number n ≡ number_of why → Seconds g m (Err n)
    second_not_fetched n e en = not_fetched n _ (sym eg ∙ e) en

    module _ {v : ℕ} (e : got ≡ Ok v) where
      pub second_turned : (why : Refusal) → refusal_number why ≡ first_of (second_refusals v) → Seconds g m (Err why)
      unfolding first_of fetch_refusals
      second_turned why t = rw (← eg, e) (sym t)

module _ (g : Given) (m : Machine) (im : List ℕ) (lit : Bool) {got : Result ℕ Refusal} (eg : Seconds g m got) where
  pub item_turned : (it : Item) → paired it ≡ true → {why : Refusal} → got ≡ Err why → {r : Stepped} → r ≡ told (refuses m (refusal_number why)) → left r im ≡ stepped m im (rest g m (Draws lit it))
  unfolding rest_refusals fetch_refusals second_refusals
  item_turned it p {why} e er =
      let s = subst (Seconds g m) e eg in
      let n = refusal_number why in
      let h : first_of (rest_refusals m (Draws lit it) (second g m)) ≡ n = rw p (stops (fetch_refusals (second g m) ++ second_refusals (word_in (second g m))) _ (λ q. some_number why (sym s ∙ q)) ∙ s) in
      dark m im refl er (rest_for g m (Draws lit it) n h (some_number why))

  module _ {v : ℕ} (e : got ≡ Ok v) where
    two_words : (it : Item) → paired it ≡ true → goes m lit (item_way m.increment it v) (item_pixels g m it v) true ≡ rest g m (Draws lit it)
    unfolding rest_refusals first_of fetch_refusals second_refusals way_refusals
    two_words it p =
        let s = subst (Seconds g m) e eg in
        let w : word_in (second g m) ≡ v = ap word_in s.0 in
        let h : first_of (rest_refusals m (Draws lit it) (second g m)) ≡ first_of (way_refusals m (item_way m.increment it (word_in (second g m)))) = rw (s.0, p) (passes (second_refusals v) (way_refusals m (item_way m.increment it v)) refl s.1) in
        rw (← w, ← p) (item_goes g m lit it h)

    pub long_done : (dx : Units) {u : Units} {r : Stepped} {im' : List ℕ} → u ≡ long v → left r im' ≡ stepped m im (goes m lit (way (Move dx) (Move u)) (vector_by m dx u) true)
        → left r im' ≡ stepped m im (rest g m (Draws lit (LongVector dx)))
    long_done dx eu er =
        er
        ∙ ap (λ (d : Units). stepped m im (goes m lit (way (Move dx) (Move d)) (vector_by m dx d) true)) eu
        ∙ ap (stepped m im) (two_words (LongVector dx) refl)

    pub absolute_done : (x : Units) {u : Units} {r : Stepped} {im' : List ℕ} → u ≡ coordinate v → left r im' ≡ stepped m im (goes m lit (way (Set x) (Set u)) (point_at m x u) true)
        → left r im' ≡ stepped m im (rest g m (Draws lit (AbsolutePoint x)))
    absolute_done x eu er =
        er
        ∙ ap (λ (y : Units). stepped m im (goes m lit (way (Set x) (Set y)) (point_at m x y) true)) eu
        ∙ ap (stepped m im) (two_words (AbsolutePoint x) refl)

-- ---- a coordinate that is set is in range
pub coordinate_in : (w : ℕ) → in_range (coordinate w) ≡ true
unfolding in_range
coordinate_in w = (both_true {s = le_z (negsuc 4095) (pos (bits 9 0 w))}).1 (refl, is_most_z.1 (within w))
  where
    within : (w : ℕ) → pos (bits 9 0 w) ≤ℤ pos 4095
    within w = omega whole

-- ---- a first word that is not refused
module _ (mode w : ℕ) (z : first_of (first_refusals mode w) ≡ 0) where
  abbrev Fine : Item → Type 0
  Fine = Drawable (is_lit mode w)

  characters_fine : bit 15 w ≡ false → eqb mode 0 ≡ true → Fine (Characters (first_code w) (second_code w))
  unfolding first_refusals
  characters_fine clear mode-0 =
      let h : not (is_code (first_code w) && is_code (second_code w)) ≡ false = rw (clear, mode-0) at (fails 32 (first_refusals mode w) refl z) in
      let codes = both_true.0 (not_false.0 h) in
      (rw mode-0, codes.0, codes.1)

  item_fine : bit 15 w ≡ false → Fine (item mode w)
  unfolding item
  item_fine clear =
      pick_keeps Fine (eqb mode 0) (characters_fine clear)
      λ z. pick_keeps Fine (eqb mode 1) (λ e. tt)
      λ a. pick_keeps Fine (eqb mode 2) (λ e. tt)
      λ b. pick_keeps Fine (eqb mode 3) (λ e. coordinate_in w)
      λ c. pick_keeps Fine (eqb mode 4) (λ e. coordinate_in w)
      λ d. pick_keeps Fine (eqb mode 5) (λ e. coordinate_in w) (λ e. tt)

  pub decode_drawable : {i : Instruction} {lit : Bool} {it : Item} → i ≡ decode mode w → i ≡ Draws lit it → Drawable lit it
  unfolding decode
  decode_drawable ei e = subst P (sym ei ∙ e) (pick_keeps P (bit 15 w) (λ e. tt) item_fine)
    where
      P : Instruction → Type 0
      P (Does o) = Unit {0}
      P (Draws lit it) = Drawable lit it

-- ---- the first word: not fetched, refused, or the instruction
module _ (g : Given) (m : Machine) {got : Result ℕ Unfetched} (eg : got ≡ first g m) where
  pub first_not_fetched : {why : Unfetched} (n : Refusal) → got ≡ Err why → refusal_number n ≡ number_of why → Firsts g m (Err n)
  first_not_fetched n e en = not_fetched n _ (sym eg ∙ e) en

  module _ {w : ℕ} (e : got ≡ Ok w) where
    is_word : word_in (first g m) ≡ w
    is_word = ap word_in (sym eg ∙ e)

    pub first_turned : (why : Refusal) → refusal_number why ≡ first_of (first_refusals m.mode w) → Firsts g m (Err why)
    unfolding first_of fetch_refusals
    first_turned why t = rw (← eg, e) (sym t)

    pub first_taken : {i : Instruction} → 0 ≡ first_of (first_refusals m.mode w) → i ≡ decode m.mode w → Firsts g m (Ok i)
    first_taken t ei = (
      ap (λ (f : Result ℕ Unfetched). first_of (fetch_refusals f)) (sym eg ∙ e) ∙ fetch_number (Ok w),
      ap (λ (v : ℕ). first_of (first_refusals m.mode v)) is_word ∙ sym t,
      ei ∙ ap (decode m.mode) (sym is_word),
    )

pub item_drawable : (g : Given) (m : Machine) {got : Result Instruction Refusal} → Firsts g m got → {i : Instruction} → got ≡ Ok i → {lit : Bool} {it : Item} → i ≡ Draws lit it → Drawable lit it
item_drawable g m eg e e' = let f = subst (Firsts g m) e eg in decode_drawable m.mode (word_in (first g m)) f.1 f.2 e'

-- ---- the step, from its instruction on
module _ (set : List ℕ) (g : Given) (m : Machine) (im : List ℕ) {got : Result Instruction Refusal} (eg : Firsts g m got) where
  -- a refused step is not put off
  pub step_refused : {why : Refusal} → got ≡ Err why → {r : Stepped} → r ≡ told (refuses m (refusal_number why)) → left r im ≡ stepped m im (later_step set g m)
  unfolding refusal refusals fetch_refusals first_refusals
  step_refused {why} e er =
      let f = subst (Firsts g m) e eg in
      let n = refusal_number why in
      let h : refusal g m ≡ n = stops (fetch_refusals (first g m) ++ first_refusals m.mode (word_in (first g m))) _ (λ q. some_number why (sym f ∙ q)) ∙ f in
      let s = step_for g m n h (some_number why) in
      dark m im refl er (s ∙ sym (refused_now (draws_letters (instruction g m)) set m (step g m) (ap (λ (t : Step). t.steps) (sym s))))

  module _ {i : Instruction} (e : got ≡ Ok i) where
    taken : rest g m (instruction g m) ≡ step g m
    unfolding step rest refusal refusals rest_refusals fetch_refusals first_refusals
    taken =
        let f = subst (Firsts g m) e eg in
        let r : refusal g m ≡ first_of (rest_refusals m (instruction g m) (second g m)) = passes (fetch_refusals (first g m)) _ refl f.0 ∙ passes (first_refusals m.mode (word_in (first g m))) _ refl f.1 in
        rw r

    now_taken : {i' : Instruction} → i ≡ i' → later set m i' (rest g m i') ≡ later_step set g m
    now_taken e' =
        let f = subst (Firsts g m) e eg in
        ap (λ (j : Instruction). later set m j (rest g m j)) (sym e' ∙ f.2)
        ∙ ap (λ (t : Step). later set m (instruction g m) t) taken

    pub done_order : {o : Order} → i ≡ Does o → (h : Given) → rest h m (Does o) ≡ rest g m (Does o) → {r : Stepped} → r ≡ told (rest h m (Does o)) → left r im ≡ stepped m im (later_step set g m)
    done_order {o} e' h same er = dark m im (order_dark h m o) er (same ∙ sym (now set m (Does o) (rest g m (Does o)) refl) ∙ now_taken e')

    pub done_item : {lit : Bool} {it : Item} → i ≡ Draws lit it → {r : Stepped} {im' : List ℕ} → left r im' ≡ stepped m im (later set m (Draws lit it) (rest g m (Draws lit it))) → left r im' ≡ stepped m im (later_step set g m)
    done_item e' er = er ∙ ap (stepped m im) (now_taken e')
