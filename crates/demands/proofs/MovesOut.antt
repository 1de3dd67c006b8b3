-- 27 by the kind of the word: which moves leave the range, and which words never do.
use Prim.Native.Nat.{ℕ, ◌≤◌}
use mathlib.Core.Bool.{Bool, true, false}
use mathlib.Core.Path.{◌≡◌, refl, sym, subst}
use mathlib.Core.Logic.{◌⊎◌, inl, inr, ⊎_elim, ◌↔◌}
use native.Mathlib.Omega.{arith}
use lib.IntN.{ℤ, pos, negsuc, ◌+ℤ◌}
use lib.Signed.{lt_z, ◌<ℤ◌}
use borrow.Author.Tests.{eq-eqb}
use Rattle.whole.specs.Parts.{whole, add}
use Rattle.definition.specs.Units.{units, moved}
use Rattle.definition.specs.File.{number_in}
use Rattle.definition.specs.Words.{bit, short_x, short_y, long, coordinate, first_code, second_code, order, item, decode}
use Rattle.definition.specs.Step.{way_of, changed, Given, first, second}
use Rattle.definition.specs.declared.Units.{Units}
use Rattle.definition.specs.declared.Machine.{Machine}
use Rattle.definition.specs.declared.Item.TheVariants.{ShortVector, LongVector, AbsolutePoint, GraphX, GraphY, RelativePoint, Characters}
use Rattle.definition.specs.declared.Instruction.{Instruction}
use Rattle.definition.specs.declared.Instruction.TheVariants.{Does, Draws}
use Rattle.definition.proofs.Plain.{◌so◌, ◌and◌, ◌or◌, is_less_z}
use Rattle.demands.specs.Conditions.{InRange, Fits, On, Off, HasCell, Pair, word, more, Continues, new_x, new_y, MovesOut, Beyond}
use Rattle.demands.proofs.WordAnswers.{data_allowed, codes_allowed, second_allowed}
use Rattle.demands.proofs.Graphs.{clear_15, coordinate_in}

-- ---- one coordinate
-- out of range is below it or above it
beyond : (u d : Units) → (InRange (moved u d) → ⊥) ↔ Beyond u d
unfolding moved
beyond u d = (λ h. there (lt_z z (negsuc 4095)) (lt_z (pos 4095) z) refl refl h, ⊎_elim below above)
  where
    z : ℤ
    z = u.0 +ℤ d.0

    there : (a b : Bool) → lt_z z (negsuc 4095) ≡ a → lt_z (pos 4095) z ≡ b → (InRange (units z) → ⊥) → Beyond u d
    there true b e k h = inl (is_less_z.0 e)
    there false true e k h = inr (is_less_z.0 k)
    there false false e k h = absurd (h (record { low = omega whole; high = omega whole }))

    below : z <ℤ negsuc 4095 → InRange (units z) → ⊥
    below l r = let k = r.low in omega whole

    above : pos 4095 <ℤ z → InRange (units z) → ⊥
    above l r = let k = r.high in omega whole

-- a step by an increment can only leave above
upward : (u : Units) (n : ℕ) → InRange u → (InRange (moved u (units (pos n))) → ⊥) ↔ (pos 4095 <ℤ (u.0 +ℤ pos n))
upward u n r = beyond u (units (pos n)) so (⊎_elim (λ l. absurd (high l)) (λ l. l), inr)
  where
    high : (u.0 +ℤ pos n) <ℤ negsuc 4095 → ⊥
    high l = let k = r.low in omega (whole, add u.0 (pos n))

-- a coordinate that is set is in range
set_in : {A : Type 0} (w : ℕ) → ((InRange (coordinate w) → ⊥) ⊎ A) ↔ A
set_in w = (⊎_elim (λ h. absurd (h (coordinate_in w))) (λ a. a), inr)

set_in_too : {A : Type 0} (w : ℕ) → (A ⊎ (InRange (coordinate w) → ⊥)) ↔ A
set_in_too w = (⊎_elim (λ a. a) (λ h. absurd (h (coordinate_in w))), inl)

-- one that stays in its range never leaves it
stays_too : {A : Type 0} {u : Units} → InRange u → (A ⊎ (InRange u → ⊥)) ↔ A
stays_too r = (⊎_elim (λ a. a) (λ h. absurd (h r)), inl)

-- ---- the words, by the mode
module _ (mode w : ℕ) where
  ordered : On 15 w → decode mode w ≡ Does (order w)
  unfolding decode
  ordered on = rw (eq-eqb _ _ on)

  module _ (off : Off 15 w) where
    pub short : mode ≡ 1 → decode mode w ≡ Draws (bit 14 w) (ShortVector (short_x w) (short_y w))
    unfolding decode item
    short e = rw (clear_15 w off, e)

    pub longer : mode ≡ 2 → decode mode w ≡ Draws (bit 14 w) (LongVector (long w))
    unfolding decode item
    longer e = rw (clear_15 w off, e)

    absolute : mode ≡ 3 → decode mode w ≡ Draws (bit 14 w) (AbsolutePoint (coordinate w))
    unfolding decode item
    absolute e = rw (clear_15 w off, e)

    graph_x : mode ≡ 4 → decode mode w ≡ Draws (bit 14 w) (GraphX (coordinate w))
    unfolding decode item
    graph_x e = rw (clear_15 w off, e)

    graph_y : mode ≡ 5 → decode mode w ≡ Draws (bit 14 w) (GraphY (coordinate w))
    unfolding decode item
    graph_y e = rw (clear_15 w off, e)

    pub characters : mode ≡ 0 → decode mode w ≡ Draws true (Characters (first_code w) (second_code w))
    unfolding decode item
    characters e = rw (clear_15 w off, e)

    relative : mode ≡ 6 → decode mode w ≡ Draws (bit 14 w) (RelativePoint (short_x w) (short_y w))
    unfolding decode item
    relative e = rw (clear_15 w off, e)

module _ (g : Given) (m : Machine) where
  abbrev w : ℕ
  w = word g m

  abbrev v : ℕ
  v = more g m

  -- where this instruction goes, once it is known
  abbrev Out : Instruction → Type 0
  Out i = (InRange (changed m.x (way_of m.increment i v).x) → ⊥) ⊎ (InRange (changed m.y (way_of m.increment i v).y) → ⊥)

  out_is : (i : Instruction) → decode m.mode w ≡ i → ((InRange (new_x g m) → ⊥) ⊎ (InRange (new_y g m) → ⊥)) ↔ Out i
  out_is i e = (λ h. subst Out e h, λ h. subst Out (sym e) h)

  -- an order never moves
  pub order_stays : Fits m → On 15 w → MovesOut g m → ⊥
  order_stays f on h = ⊎_elim (λ k. k f.x) (λ k. k f.y) ((out_is (Does (order w)) (ordered m.mode w on)).0 h.1)

  module _ (off : Off 15 w) (some : 1 ≤ m.mode) (few : m.mode ≤ 6) where
    pub one_word : (Pair m.mode w → ⊥) → Continues g m ↔ (number_in (first g m) ≡ 0)
    one_word no_pair = (
      λ c. c.begins.fetched,
      λ z. record {
        begins = record { fetched = z; allowed = data_allowed m.mode w off some few };
        fetched = λ q. absurd (⊎_elim (λ h. let on = h.0 in omega arith) no_pair q);
        allowed = λ q. absurd (no_pair q);
      },
    )

    pub two_words : Pair m.mode w → Continues g m ↔ ((number_in (first g m) ≡ 0) × ((number_in (second g m) ≡ 0) × Off 15 v))
    two_words pair = (
      λ c. (c.begins.fetched, (c.fetched (inr pair), (second_allowed v).0 (c.allowed pair))),
      λ q. record {
        begins = record { fetched = q.0; allowed = data_allowed m.mode w off some few };
        fetched = λ p. q.1.0;
        allowed = λ p. (second_allowed v).1 q.1.1;
      },
    )

  pub not_paired : (m.mode ≡ 2 → ⊥) → (m.mode ≡ 3 → ⊥) → Pair m.mode w → ⊥
  not_paired a b p = ⊎_elim a b p.1

  -- a word of mode 0 gets as far as its move where both its codes have a cell
  module _ (off : Off 15 w) (e : m.mode ≡ 0) where
    pub characters_continue : Continues g m ↔ ((number_in (first g m) ≡ 0) × (HasCell (first_code w) × HasCell (second_code w)))
    characters_continue = (
      λ c. (c.begins.fetched, (codes_allowed m.mode w off e).0 c.begins.allowed),
      λ q. record {
        begins = record { fetched = q.0; allowed = (codes_allowed m.mode w off e).1 q.1 };
        fetched = λ p. absurd (⊎_elim (λ h. let on = h.0 in omega arith) no_pair p);
        allowed = λ p. absurd (no_pair p);
      },
    )
      where
        no_pair : Pair m.mode w → ⊥
        no_pair = not_paired (λ q. omega arith) (λ q. omega arith)

    pub characters_out : Fits m → MovesOut g m ↔ ((number_in (first g m) ≡ 0) × ((HasCell (first_code w) × HasCell (second_code w)) × (pos 4095 <ℤ (m.x.0 +ℤ pos 32))))
    characters_out f =
        characters_continue and (out_is _ (characters m.mode w off e) so stays_too f.y so upward m.x 32 f.x)
        so (λ q. (q.0.0, (q.0.1, q.1)), λ q. ((q.0, q.1.0), q.1.1))

  module _ (off : Off 15 w) where
    pub short_out : m.mode ≡ 1 → MovesOut g m ↔ ((number_in (first g m) ≡ 0) × (Beyond m.x (short_x w) ⊎ Beyond m.y (short_y w)))
    short_out e = one_word off (omega arith) (omega arith) (not_paired (λ q. omega arith) (λ q. omega arith)) and (out_is _ (short m.mode w off e) so beyond m.x (short_x w) or beyond m.y (short_y w))

    pub relative_out : m.mode ≡ 6 → MovesOut g m ↔ ((number_in (first g m) ≡ 0) × (Beyond m.x (short_x w) ⊎ Beyond m.y (short_y w)))
    relative_out e = one_word off (omega arith) (omega arith) (not_paired (λ q. omega arith) (λ q. omega arith)) and (out_is _ (relative m.mode w off e) so beyond m.x (short_x w) or beyond m.y (short_y w))

    pub long_out : m.mode ≡ 2 → MovesOut g m ↔ (((number_in (first g m) ≡ 0) × ((number_in (second g m) ≡ 0) × Off 15 v)) × (Beyond m.x (long w) ⊎ Beyond m.y (long v)))
    long_out e = two_words off (omega arith) (omega arith) (off, inl e) and (out_is _ (longer m.mode w off e) so beyond m.x (long w) or beyond m.y (long v))

    -- an absolute point never leaves
    pub absolute_stays : m.mode ≡ 3 → MovesOut g m → ⊥
    absolute_stays e h = ⊎_elim (λ k. k (coordinate_in w)) (λ k. k (coordinate_in v)) ((out_is _ (absolute m.mode w off e)).0 h.1)

    pub graph_x_out : Fits m → m.mode ≡ 4 → MovesOut g m ↔ ((number_in (first g m) ≡ 0) × (pos 4095 <ℤ (m.y.0 +ℤ pos m.increment)))
    graph_x_out f e =
        one_word off (omega arith) (omega arith) (not_paired (λ q. omega arith) (λ q. omega arith))
        and (out_is _ (graph_x m.mode w off e) so set_in w so upward m.y m.increment f.y)

    pub graph_y_out : Fits m → m.mode ≡ 5 → MovesOut g m ↔ ((number_in (first g m) ≡ 0) × (pos 4095 <ℤ (m.x.0 +ℤ pos m.increment)))
    graph_y_out f e =
        one_word off (omega arith) (omega arith) (not_paired (λ q. omega arith) (λ q. omega arith))
        and (out_is _ (graph_y m.mode w off e) so set_in_too w so upward m.x m.increment f.x)
