-- Characters: a pixel is lit exactly when its bit in the cell is set, and what a word of two characters stores and leaves.
use Prim.Native.Nat.{ℕ, zero, suc, ◌+◌, ◌-◌, ◌*◌, ◌<◌, ◌%◌}
use mathlib.Core.Bool.{Bool, true, false}
use mathlib.Core.List.{List, [], ◌∷◌}
use mathlib.Core.Path.{◌≡◌, refl, sym, ap, subst, ◌∙◌}
use mathlib.Core.Logic.{◌⊎◌, inl, inr, ⊎_elim, ◌↔◌}
use native.Mathlib.Omega.{arith}
use native.Mathlib.Decide.{ℕ_discrete}
use lib.ListN.{length, length-drop, get_or, drop}
use lib.Seq.{length-take-le, get_or-take, get_or-drop}
use lib.IntN.{ℤ, pos, negsuc, ◌+ℤ◌}
use lib.Signed.{shr_z, ◌≤ℤ◌}
use Rattle.whole.specs.Parts.{whole, add, floor}
use Rattle.definition.specs.Choice.{pick}
use Rattle.definition.specs.Units.{units, pixel, pixels_of, moved}
use Rattle.definition.specs.File.{number_in}
use Rattle.definition.specs.Image.{square, image_bytes, pixel_at, inside, stores, Left}
use Rattle.definition.specs.Words.{first_code, second_code, decode}
use Rattle.definition.specs.Characters.{set_bytes, cell_of, is_set, gathered, row_pixels, cell_pixels}
use Rattle.definition.specs.Machine.{with_counter, with_position, shape_of, pen_of}
use Rattle.definition.specs.Step.{way_of, changed, done, Given, first, refusal, Step, step}
use Rattle.definition.specs.Run.{State, begun, run}
use Rattle.definition.specs.Calls.{Lent, Read, given, step_call, read_call}
use Rattle.definition.specs.declared.Pixel.{Pixel}
use Rattle.definition.specs.declared.Machine.{Machine}
use Rattle.definition.specs.declared.Instruction.{Instruction}
use Rattle.definition.specs.declared.Item.TheVariants.{Characters}
use Rattle.definition.specs.declared.Instruction.TheVariants.{Draws}
use Rattle.definition.specs.declared.Ran.{Ran}
use Rattle.definition.proofs.Exactly.{apart}
use Rattle.definition.proofs.Plain.{◌so◌, ◌and◌, ◌or◌, itself, is_equal}
use Rattle.definition.proofs.StepLaws.{step_done}
use Rattle.demands.specs.Conditions.{Among, InRange, Fits, Open, During, InField, Off, HasCell, word, more, new_x, new_y}
use Rattle.demands.specs.Cells.{LitIn, first_corner, second_corner, ByCharacters, DrawnCharacters, characters}
use Rattle.demands.specs.Strokes.{Stroke, strokes, lights_between, Plots, seen}
use Rattle.demands.proofs.Runs.{one_turn}
use Rattle.demands.proofs.Kept.{run_length}
use Rattle.demands.proofs.Members.{in_append, in_inside}
use Rattle.demands.proofs.StepAnswers.{refused_0}
use Rattle.demands.proofs.Places.{lit_stores, stroke_in_words}
use Rattle.demands.proofs.CallAnswers.{door_0, call_open}
use Rattle.demands.proofs.OnePen.{lit_stands, unlit_stands}
use Rattle.demands.proofs.OtherCalls.{read_0, reads_alike}
use Rattle.demands.proofs.MovesOut as words

-- ---- lists put together from numbered ones
some_of : (n : ℕ) {A B : ℕ → Type 0} → ((k : ℕ) → A k ↔ B k) → ((k : ℕ) × ((k < n) × A k)) ↔ ((k : ℕ) × ((k < n) × B k))
some_of n e = (λ w. (w.0, (w.1.0, (e w.0).0 w.1.1)), λ w. (w.0, (w.1.0, (e w.0).1 w.1.1)))

in_gathered : (p : Pixel) (f : ℕ → List Pixel) (n : ℕ) → Among p (gathered f n) ↔ ((k : ℕ) × ((k < n) × Among p (f k)))
unfolding gathered
in_gathered p f zero = (λ h. absurd h, λ w. absurd (let l = w.1.0 in omega arith))
in_gathered p f (suc n) = in_append p (gathered f n) (f n) so in_gathered p f n or itself so (⊎_elim before (λ h. (n, (omega arith, h))), λ w. last w.0 w.1.0 w.1.1 (ℕ_discrete w.0 n))
  where
    before : (k : ℕ) × ((k < n) × Among p (f k)) → (k : ℕ) × ((k < suc n) × Among p (f k))
    before w = (w.0, (let l = w.1.0 in omega arith, w.1.1))

    last : (k : ℕ) → k < suc n → Among p (f k) → Dec (k ≡ n) → ((k : ℕ) × ((k < n) × Among p (f k))) ⊎ Among p (f n)
    last k l h (yes e) = inr (subst (λ (i : ℕ). Among p (f i)) e h)
    last k l h (no d) = inl (k, (omega arith, h))

in_one : (p q : Pixel) (t : Bool) → Among p (pick t (q ∷ []) []) ↔ ((t ≡ true) × (p ≡ q))
in_one p q true = (⊎_elim (λ e. (refl, e)) (λ n. absurd n), λ w. inl w.1)
in_one p q false = (λ n. absurd n, λ w. absurd (apart (sym w.0)))

-- ---- a cell
pub cell_lights : (corner : Pixel) (cell : List ℕ) (p : Pixel) → Among p (cell_pixels corner cell) ↔ LitIn corner cell p
unfolding cell_pixels row_pixels
cell_lights corner cell p =
    in_gathered p rows 8 so some_of 8 (λ r. in_gathered p (dots r) 8 so some_of 8 (λ k. in_one p (at r k) (is_set (get_or cell r 0) k) so is_equal and itself))
    so (
      λ w. record { r = w.0; k = w.1.1.0; row = w.1.0; column = w.1.1.1.0; place = w.1.1.1.1.1; bit_set = w.1.1.1.1.0 },
      λ l. (l.r, (l.row, (l.k, (l.column, (l.bit_set, l.place))))),
    )
  where
    at : ℕ → ℕ → Pixel
    at r k = pixel (corner.x.0 +ℤ pos k) (corner.y.0 +ℤ pos (7 - r))

    dots : ℕ → ℕ → List Pixel
    dots r k = pick (is_set (get_or cell r 0) k) (at r k ∷ []) []

    rows : ℕ → List Pixel
    rows r = row_pixels corner.x.0 (corner.y.0 +ℤ pos (7 - r)) (get_or cell r 0)

-- a cell has eight bytes, and byte r of the cell of code c is byte 8 (c - 32) + r of the set
pub cell_length : (set : List ℕ) (c : ℕ) → length set ≡ set_bytes → HasCell c → length (cell_of set c) ≡ 8
unfolding cell_of
cell_length set c l h = let a = h.0 in let b = h.1 in length-take-le 8 (drop (8 * (c - 32)) set) (let d = length-drop (8 * (c - 32)) set in omega arith)

pub cell_byte : (set : List ℕ) (c r : ℕ) → r < 8 → get_or (cell_of set c) r 0 ≡ get_or set (8 * (c - 32) + r) 0
unfolding cell_of
cell_byte set c r h = get_or-take 8 (drop (8 * (c - 32)) set) r 0 h ∙ get_or-drop (8 * (c - 32)) set r 0

-- ---- a word of two characters
-- the second cell stands directly to the right of the first
eight_on : (x : ℤ) → shr_z (x +ℤ pos 16) 2 ≡ shr_z x 2 +ℤ pos 8
eight_on x = omega (whole, floor x 2 (omega arith), floor (x +ℤ pos 16) 2 (omega arith), add x (pos 16), add (shr_z x 2) (pos 8))

pub second_corner_is : (m : Machine) → second_corner m ≡ pixel ((first_corner m).x.0 +ℤ pos 8) (first_corner m).y.0
unfolding pixel_at pixels_of
second_corner_is m = ap (λ (z : ℤ). pixel z (shr_z m.y.0 2)) (eight_on m.x.0)

-- it is completed where it is fetched, both its codes have a cell, and its advance stays in range
pub character_completes : (g : Given) (m : Machine) → Fits m → Off 15 (word g m) → m.mode ≡ 0
    → (refusal g m ≡ 0) ↔ ((number_in (first g m) ≡ 0) × ((HasCell (first_code (word g m)) × HasCell (second_code (word g m))) × ((m.x.0 +ℤ pos 32) ≤ℤ pos 4095)))
unfolding moved
character_completes g m f off e =
    refused_0 g m f so words.characters_continue g m off e and ends
    so (λ q. (q.0.0, (q.0.1, q.1)), λ q. ((q.0, q.1.0), q.1.1))
  where
    In : Instruction → Type 0
    In i = InRange (changed m.x (way_of m.increment i (more g m)).x) × InRange (changed m.y (way_of m.increment i (more g m)).y)

    is : decode m.mode (word g m) ≡ Draws true (Characters (first_code (word g m)) (second_code (word g m)))
    is = words.characters m.mode (word g m) off e

    not_below : negsuc 4095 ≤ℤ (m.x.0 +ℤ pos 32)
    not_below = let l = f.x.low in omega (whole, add m.x.0 (pos 32))

    ends : (InRange (new_x g m) × InRange (new_y g m)) ↔ ((m.x.0 +ℤ pos 32) ≤ℤ pos 4095)
    ends = (λ w. (subst In is w).0.high, λ h. subst In (sym is) (record { low = not_below; high = h }, f.y))

-- what the cells of both codes light, in order
in_characters : (g : Given) (m : Machine) (p : Pixel) → Among p (characters g.set m (word g m)) ↔ ByCharacters g m p
in_characters g m p =
    in_append p (cell_pixels (first_corner m) (cell_of g.set (first_code (word g m)))) (cell_pixels (second_corner m) (cell_of g.set (second_code (word g m))))
    so cell_lights (first_corner m) (cell_of g.set (first_code (word g m))) p or cell_lights (second_corner m) (cell_of g.set (second_code (word g m))) p

module _ (g : Given) (m : Machine) (free : refusal g m ≡ 0) (off : Off 15 (word g m)) (e : m.mode ≡ 0) where
  pub character_word : (step g m).machine ≡ with_position (with_counter m ((m.counter + 2) % 65536)) (units (m.x.0 +ℤ pos 32)) m.y
  unfolding done moved
  character_word = ap (λ (t : Step). t.machine) (step_done g m free) ∙ ap (λ (i : Instruction). done m i (more g m)) (words.characters m.mode (word g m) off e)

  -- with write on it stores those pixels of its two cells that are in the field
  stored : m.write ≡ true → (step g m).pixels ≡ inside (shape_of m) (characters g.set m (word g m))
  stored on =
      lit_stores g m free on off (inl e)
      ∙ ap (λ (mode : ℕ). inside (shape_of m) (lights_between g mode (word g m) m (step g m).machine)) e

  pub character_stores : m.write ≡ true → (p : Pixel) → Among p (step g m).pixels ↔ (InField (shape_of m) p × ByCharacters g m p)
  character_stores on p = rw (stored on) (in_inside (shape_of m) p (characters g.set m (word g m)) so itself and in_characters g m p)

-- ---- of a run: its strokes, and what a reader sees
module _ (g : Given) (m : Machine) (p : Pixel) where
  plots_characters : m.mode ≡ 0 → Plots g m p ↔ (DrawnCharacters g m × (InField (shape_of m) p × ByCharacters g m p))
  plots_characters e = (
    λ r. (record { completes = r.free; writes = r.on; data_word = r.data_word; mode = e }, (r.field, (in_characters g m p).0 (at_mode e r.pixel))),
    λ w. record { free = w.0.completes; on = w.0.writes; data_word = w.0.data_word; lit = inl e; field = w.1.0; pixel = at_mode (sym e) ((in_characters g m p).1 w.1.1) },
  )
    where
      at_mode : {k n : ℕ} → k ≡ n → Among p (lights_between g k (word g m) m (step g m).machine) → Among p (lights_between g n (word g m) m (step g m).machine)
      at_mode q i = subst (λ (n : ℕ). Among p (lights_between g n (word g m) m (step g m).machine)) q i

pub character_origin : (g : Given) (b : ℕ) (s : State) (t : Stroke)
    → ((t.machine.mode ≡ 0) × Among t (strokes g b s)) ↔ During g b s (λ m. (t.machine ≡ m) × (DrawnCharacters g m × (InField (shape_of m) t.pixel × ByCharacters g m t.pixel)))
character_origin g b s t = (there, back)
  where
    there : (t.machine.mode ≡ 0) × Among t (strokes g b s) → During g b s (λ m. (t.machine ≡ m) × (DrawnCharacters g m × (InField (shape_of m) t.pixel × ByCharacters g m t.pixel)))
    there w =
        let d = (stroke_in_words g b s t).0 w.1 in
        let same = d.1.1.1.0 in
        (d.0, (d.1.0, (d.1.1.0, (same, (plots_characters g (run g d.0 s).machine t.pixel (sym (ap (λ (m : Machine). m.mode) same) ∙ w.0)).0 d.1.1.1.1))))

    back : During g b s (λ m. (t.machine ≡ m) × (DrawnCharacters g m × (InField (shape_of m) t.pixel × ByCharacters g m t.pixel))) → (t.machine.mode ≡ 0) × Among t (strokes g b s)
    back d =
        let same = d.1.1.1.0 in
        let e = d.1.1.1.1.0.mode in
        (ap (λ (m : Machine). m.mode) same ∙ e, (stroke_in_words g b s t).1 (d.0, (d.1.0, (d.1.1.0, (same, (plots_characters g (run g d.0 s).machine t.pixel e).1 d.1.1.1.1)))))

module _ (g : Given) (m : Machine) (im : List ℕ) (fits : Fits m) (running : m.status ≡ 0) (d : DrawnCharacters g m) where
  image_is : (run g 1 (begun m im)).image ≡ stores square (pen_of m) im (inside square (characters g.set m (word g m)))
  image_is = ap (λ (t : State). t.image) (one_turn g (begun m im) running) ∙ ap (stores square (pen_of m) im) (stored g m d.completes d.data_word d.mode d.writes)

  -- a set bit's pixel reads the pixel value, and every other pixel reads as before
  pub character_reads : (p : Pixel) → length im ≡ image_bytes → InField square p → ByCharacters g m p → read_call square (run g 1 (begun m im)).image p ≡ record { answer = 0; digit = m.value }
  character_reads p l f h =
      (read_0 square (run g 1 (begun m im)).image p).1 (run_length g 1 (begun m im) ∙ l, f)
      ∙ ap (λ (n : ℕ). let q : Read = record { answer = 0; digit = n } in q) (ap (λ (t : List ℕ). seen square t p) image_is ∙ lit_stands m fits im l p f (characters g.set m (word g m)) ((in_characters g m p).1 h))

  pub no_character_reads : (p : Pixel) → (ByCharacters g m p → ⊥) → read_call square (run g 1 (begun m im)).image p ≡ read_call square im p
  no_character_reads p h =
      reads_alike square im (run g 1 (begun m im)).image p (run_length g 1 (begun m im))
      (λ l f. ap (λ (t : List ℕ). seen square t p) image_is ∙ unlit_stands m fits im l p f (characters g.set m (word g m)) (λ i. h ((in_characters g m p).0 i)))

-- the same of a step that is called
module _ (l : Lent) (m : Machine) (im : List ℕ) (o : Open l m im 1) (d : DrawnCharacters (given l) m) where
  reads_so : (p : Pixel) → read_call square (step_call l m im).image p ≡ read_call square (run (given l) 1 (begun m im)).image p
  reads_so p = ap (λ (t : Left Ran). read_call square t.image p) (call_open l m im 1 ((door_0 l m im 1).1 o))

  pub call_character_reads : (p : Pixel) → InField square p → ByCharacters (given l) m p → read_call square (step_call l m im).image p ≡ record { answer = 0; digit = m.value }
  call_character_reads p f h = reads_so p ∙ character_reads (given l) m im o.machine o.running d p o.image f h

  pub call_no_character_reads : (p : Pixel) → (ByCharacters (given l) m p → ⊥) → read_call square (step_call l m im).image p ≡ read_call square im p
  call_no_character_reads p h = reads_so p ∙ no_character_reads (given l) m im o.machine o.running d p h
