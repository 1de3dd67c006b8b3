-- What an item lights, in words and positions alone: a vector between the positions before and after its step, or one pixel of them.
use Prim.Native.Nat.{ℕ, ◌/◌, ◌%◌}
use mathlib.Core.Bool.{Bool, true, false}
use mathlib.Core.List.{[]}
use mathlib.Core.Path.{◌≡◌, refl, sym, ap, subst, ◌∙◌}
use mathlib.Core.Logic.{◌⊎◌, ⊎_elim, ◌↔◌}
use native.Mathlib.Omega.{arith}
use native.Mathlib.Decide.{ℕ_discrete}
use borrow.Author.Tests.{eq-eqb, ne_eqb}
use Rattle.definition.specs.Choice.{pick}
use Rattle.definition.specs.Units.{moved}
use Rattle.definition.specs.Image.{inside}
use Rattle.definition.specs.Words.{bit, is_lit, order, item, decode}
use Rattle.definition.specs.Machine.{shape_of}
use Rattle.definition.specs.Step.{item_way, changed, item_pixels, stored_of, done, Given, instruction, refusal, Step, step}
use Rattle.definition.specs.Run.{State}
use Rattle.definition.specs.declared.Pixel.{Pixel}
use Rattle.definition.specs.declared.Machine.{Machine}
use Rattle.definition.specs.declared.Item.{Item}
use Rattle.definition.specs.declared.Instruction.{Instruction}
use Rattle.definition.specs.declared.Instruction.TheVariants.{Does, Draws}
use Rattle.definition.proofs.Plain.{◌so◌, ◌or◌, is_equal, not_true, either_true}
use Rattle.definition.proofs.StepLaws.{pick_keeps, step_done, step_keeps}
use Rattle.demands.specs.Conditions.{Among, During, On, Off, LitWord, BlankWord, word, more}
use Rattle.demands.specs.Strokes.{Stroke, strokes, Lights, lights_between, Plots}
use Rattle.demands.proofs.WordAnswers.{is_off}
use Rattle.demands.proofs.Graphs.{clear_15}
use Rattle.demands.proofs.Origins.{stroke_origin}

-- ---- the items, by the mode
-- what holds of 0 to 5 and of any other number holds of every mode
by_modes : (P : ℕ → Type 0) (mode : ℕ) → P 0 → P 1 → P 2 → P 3 → P 4 → P 5
    → ((mode ≡ 0 → ⊥) → (mode ≡ 1 → ⊥) → (mode ≡ 2 → ⊥) → (mode ≡ 3 → ⊥) → (mode ≡ 4 → ⊥) → (mode ≡ 5 → ⊥) → P mode) → P mode
by_modes P mode p0 p1 p2 p3 p4 p5 other =
    or_else (ℕ_discrete mode 0) p0
    λ z. or_else (ℕ_discrete mode 1) p1
    λ a. or_else (ℕ_discrete mode 2) p2
    λ b. or_else (ℕ_discrete mode 3) p3
    λ c. or_else (ℕ_discrete mode 4) p4
    λ d. or_else (ℕ_discrete mode 5) p5 (other z a b c d)
  where
    or_else : {k : ℕ} → Dec (mode ≡ k) → P k → ((mode ≡ k → ⊥) → P mode) → P mode
    or_else (yes e) p q = subst P (sym e) p
    or_else (no n) p q = q n

module _ (g : Given) (m m' : Machine) (w v : ℕ) where
  -- m' stands where this item takes m
  abbrev Goes : Item → Type 0
  Goes it = (m'.x ≡ changed m.x (item_way m.increment it v).x) × (m'.y ≡ changed m.y (item_way m.increment it v).y)

  abbrev Lit : ℕ → Type 0
  Lit mode = Goes (item mode w) → item_pixels g m (item mode w) v ≡ lights_between g mode w m m'

  item_lights : (mode : ℕ) → Lit mode
  unfolding item moved
  item_lights mode =
      by_modes Lit mode (λ e. refl) (λ e. rw (e.0, e.1)) (λ e. rw (e.0, e.1)) (λ e. rw (e.0, e.1)) (λ e. rw e.0) (λ e. rw e.1)
      (λ z a b c d f. rw (ne_eqb mode 0 z, ne_eqb mode 1 a, ne_eqb mode 2 b, ne_eqb mode 3 c, ne_eqb mode 4 d, ne_eqb mode 5 f) (λ e. rw (e.0, e.1)))

-- ---- a word that draws, lit: bit 15 clear, and bit 14 set or the mode 0
is_lit_is : (mode w : ℕ) → (is_lit mode w ≡ true) ↔ LitWord mode w
is_lit_is mode w = either_true so is_equal or is_equal

draws : (mode w : ℕ) → Off 15 w → LitWord mode w → decode mode w ≡ Draws true (item mode w)
unfolding decode
draws mode w off lit = rw (clear_15 w off, (is_lit_is mode w).1 lit)

drawn : (mode w : ℕ) (it : Item) → decode mode w ≡ Draws true it → Off 15 w × (LitWord mode w × (it ≡ item mode w))
unfolding decode
drawn mode w it e = go (bit 15 w) (is_lit mode w) refl refl e
  where
    go : (a b : Bool) → bit 15 w ≡ a → is_lit mode w ≡ b → pick a (Does (order w)) (Draws b (item mode w)) ≡ Draws true it → Off 15 w × (LitWord mode w × (it ≡ item mode w))
    go true b p q h = absurd (let z : ◌≡◌ {A = ℕ} 0 1 = cc in omega arith)
    go false b p q h = ((is_off (w / 32768)).0 (not_true.1 p), ((is_lit_is mode w).0 (q ∙ (cc)), cc))

module _ (g : Given) (m : Machine) where
  goes : (it : Item) → refusal g m ≡ 0 → instruction g m ≡ Draws true it → Goes g m (step g m).machine (word g m) (more g m) it
  unfolding done
  goes it z e =
      subst (λ (n : Machine). Goes g m n (word g m) (more g m) it)
      (sym (ap (λ (t : Step). t.machine) (step_done g m z) ∙ ap (λ (i : Instruction). done m i (more g m)) e)) (refl, refl)

  -- its pixels, by the mode
  by_mode : refusal g m ≡ 0 → instruction g m ≡ Draws true (item m.mode (word g m)) → item_pixels g m (item m.mode (word g m)) (more g m) ≡ lights_between g m.mode (word g m) m (step g m).machine
  by_mode z e = item_lights g m (step g m).machine (word g m) (more g m) m.mode (goes (item m.mode (word g m)) z e)

  pub in_words : (p : Pixel) → Lights g m p ↔ Plots g m p
  in_words p = (there, back)
    where
      there : Lights g m p → Plots g m p
      there r =
          let d = drawn m.mode (word g m) r.item r.lit in
          let i = draws m.mode (word g m) d.0 d.1.0 in
          record {
            free = r.free;
            on = r.writing;
            data_word = d.0;
            lit = d.1.0;
            field = r.field;
            pixel = subst (Among p) (ap (λ (it : Item). item_pixels g m it (more g m)) d.1.1 ∙ by_mode r.free i) r.pixel;
          }

      back : Plots g m p → Lights g m p
      back r =
          let i = draws m.mode (word g m) r.data_word r.lit in
          record {
            free = r.free;
            writing = r.on;
            item = item m.mode (word g m);
            lit = i;
            field = r.field;
            pixel = subst (Among p) (sym (by_mode r.free i)) r.pixel;
          }

-- ---- what a step stores, in order
module _ (g : Given) (m : Machine) where
  pub lit_stores : refusal g m ≡ 0 → m.write ≡ true → Off 15 (word g m) → LitWord m.mode (word g m) → (step g m).pixels ≡ inside (shape_of m) (lights_between g m.mode (word g m) m (step g m).machine)
  lit_stores z on off lit =
      let i = draws m.mode (word g m) off lit in
      ap (λ (t : Step). t.pixels) (step_done g m z)
      ∙ ap (λ (j : Instruction). stored_of g m j (more g m)) i
      ∙ ap (λ (b : Bool). pick b (inside (shape_of m) (item_pixels g m (item m.mode (word g m)) (more g m))) []) on
      ∙ ap (inside (shape_of m)) (by_mode g m z i)

  unlit : (i : Instruction) → m.write ≡ false → stored_of g m i (more g m) ≡ []
  unlit (Does o) e = refl
  unlit (Draws true it) e = ap (λ (b : Bool). pick b (inside (shape_of m) (item_pixels g m it (more g m))) []) e
  unlit (Draws false it) e = refl

  none_of : stored_of g m (instruction g m) (more g m) ≡ [] → (step g m).pixels ≡ []
  none_of e = step_keeps g (λ t. t.pixels ≡ []) m (λ z. e) refl

  pub else_stores_none : (m.write ≡ false) ⊎ (On 15 (word g m) ⊎ BlankWord m.mode (word g m)) → (step g m).pixels ≡ []
  unfolding decode
  else_stores_none h = none_of (⊎_elim (unlit (instruction g m)) (⊎_elim order_none blank_none) h)
    where
      order_none : On 15 (word g m) → stored_of g m (instruction g m) (more g m) ≡ []
      order_none on = rw (eq-eqb (word g m / 32768 % 2) 1 on)

      blank_none : BlankWord m.mode (word g m) → stored_of g m (instruction g m) (more g m) ≡ []
      blank_none h =
          let off = h.1 in
          pick_keeps (λ i. stored_of g m i (more g m) ≡ []) (bit 15 (word g m)) (λ e. refl) (λ e. rw (ne_eqb m.mode 0 h.0, ne_eqb (word g m / 16384 % 2) 1 (λ q. omega arith)))

-- so a stroke's origin, too
pub stroke_in_words : (g : Given) (b : ℕ) (s : State) (t : Stroke) → Among t (strokes g b s) ↔ During g b s (λ m. (t.machine ≡ m) × Plots g m t.pixel)
stroke_in_words g b s t =
    stroke_origin g b s t so (
      λ d. (d.0, (d.1.0, (d.1.1.0, (d.1.1.1.0, (in_words g _ t.pixel).0 d.1.1.1.1)))),
      λ d. (d.0, (d.1.0, (d.1.1.0, (d.1.1.1.0, (in_words g _ t.pixel).1 d.1.1.1.1)))),
    )
