-- What the definition guarantees: the customer's three demands, and that every promise allows one outcome. What a run draws is in Drawing.antt.
-- Each theorem has a proof of a line here; the proofs themselves are in the files that it names. The words of the statements are defined in specs/.
use Prim.Native.Nat.{ℕ, suc, ◌+◌, ◌*◌, ◌≤◌, ◌<◌, ◌%◌}
use mathlib.Core.Bool.{true, false}
use mathlib.Core.List.{List, [], ◌∷◌, ◌++◌, reverse}
use mathlib.Core.Path.{◌≡◌, refl, sym, ap, ◌∙◌}
use mathlib.Core.Logic.{◌⊎◌, ◌↔◌}
use lib.ListN.{length, get_or}
use lib.IntN.{ℤ, pos, nat_abs, ◌+ℤ◌, ◌-ℤ◌, ◌*ℤ◌}
use lib.Signed.{◌≤ℤ◌, ◌<ℤ◌}
use Rattle.std.specs.Prelude.{Result, Ok}
use Rattle.definition.specs.Refusal.{answer_of}
use Rattle.definition.specs.Units.{units, pixels_of}
use Rattle.definition.specs.Image.{Shape, square, image_bytes, blank, pixel_at, inside, stores, digit_at, Left, left}
use Rattle.definition.specs.File.{tag, segments, offset, size, header, segment_of, place_of, fetch, number_in}
use Rattle.definition.specs.Words.{short_x, short_y, long, coordinate, first_code, second_code}
use Rattle.definition.specs.Vector.{longer, vector}
use Rattle.definition.specs.Machine.{refusal_numbers, statuses, fresh, started_at, with_status, shape_of, pen_of}
use Rattle.definition.specs.Step.{Given, first, second, refusal, step}
use Rattle.definition.specs.Run.{State, begun, after, run}
use Rattle.definition.specs.Calls.{Lent, Started, Read, plain, given, started_of, read_of, check_call, start_call, door_numbers, run_door, turned_away, run_call, step_call, clear_call, read_call}
use Rattle.definition.specs.Plot.{words_in, plot_budget, ran_line, refused_line, plot_line}
use Rattle.definition.specs.Promises.{PromiseCheck, PromiseFresh, PromiseStart, PromiseRun, PromiseStep, PromiseClear, PromiseRead}
use Rattle.definition.specs.declared.Units.{Units}
use Rattle.definition.specs.declared.Pixel.{Pixel}
use Rattle.definition.specs.declared.Machine.{Machine}
use Rattle.definition.specs.declared.Ran.{Ran}
use Rattle.definition.specs.declared.Refusal.{Refusal}
use Rattle.definition.proofs.Refusals as refusals
use Rattle.demands.specs.Conditions.{Among, Head, Keeps, Accepted, SameHeader, SameWords, Fits, Lendable, Open, During, InField, On, Off, HasCell, NotBuilt, NoMode, BadCode, Pair, word, more, Begins, FetchRefused, MovesOut, Beyond, Stops, LatchIs}
use Rattle.demands.specs.Ledger.{completed, changes, settled}
use Rattle.demands.specs.Graphs.{AlongX, AlongY, weeks, of_lit, shown, Ready, plotted}
use Rattle.demands.specs.Exact.{exact}
use Rattle.demands.specs.With.{with_file, with_machine}
use Rattle.demands.specs.Outcomes.{refused_after, plus}
use Rattle.demands.proofs.Runs as runs
use Rattle.demands.proofs.Kept as kept
use Rattle.demands.proofs.Outside as outside
use Rattle.demands.proofs.FileAnswers as file
use Rattle.demands.proofs.StepAnswers as steps
use Rattle.demands.proofs.CallAnswers as calls
use Rattle.demands.proofs.OtherCalls as others
use Rattle.demands.proofs.Graphs as graphs
use Rattle.demands.proofs.Drift as drift
use Rattle.demands.proofs.Vectors as vectors
use Rattle.demands.proofs.Near as near
use Rattle.demands.proofs.MovesOut as moves
use Rattle.demands.proofs.Strokes as strokes

-- ==== Demand 1

-- ---- words that are in no segment decide nothing
-- the check looks at the length and at the header, and at nothing else
pub check_reads_the_header : (f g : List ℕ) → SameHeader f g → length f ≡ length g → check_call f ≡ check_call g
check_reads_the_header = outside.same_check

-- two accepted files, of any lengths, with the same header and the same words in their segments: the same run, and the same step, whatever else is lent
pub run_reads_the_segments : (f g : List ℕ) → SameWords f g → Accepted f → Accepted g → (l : Lent) (m : Machine) (im : List ℕ) (b : ℕ) → run_call (with_file l f) m im b ≡ run_call (with_file l g) m im b
run_reads_the_segments = outside.same_run

pub step_reads_the_segments : (f g : List ℕ) → SameWords f g → Accepted f → Accepted g → (l : Lent) (m : Machine) (im : List ℕ) → step_call (with_file l f) m im ≡ step_call (with_file l g) m im
step_reads_the_segments f g h p q l m im = outside.same_run f g h p q l m im 1

-- for one: whatever words follow an accepted file
pub words_after_the_file : (f more : List ℕ) → Accepted f → (l : Lent) (m : Machine) (im : List ℕ) (b : ℕ) → run_call (with_file l f) m im b ≡ run_call (with_file l (f ++ more)) m im b
words_after_the_file = outside.appended_run

-- accepted or not: two files of one length with the same header and the same words in their segments; and so for the line of `plot`
pub run_of_one_length : (f h : List ℕ) → SameWords f h → length f ≡ length h → (l : Lent) (m : Machine) (im : List ℕ) (b : ℕ) → run_call (with_file l f) m im b ≡ run_call (with_file l h) m im b
run_of_one_length = outside.alike_run

pub step_of_one_length : (f h : List ℕ) → SameWords f h → length f ≡ length h → (l : Lent) (m : Machine) (im : List ℕ) → step_call (with_file l f) m im ≡ step_call (with_file l h) m im
step_of_one_length f h w e l m im = outside.alike_run f h w e l m im 1

pub line_of_one_length : (bytes other : List ℕ) → SameWords (words_in bytes) (words_in other) → length bytes ≡ length other → plot_line bytes ≡ plot_line other
line_of_one_length = outside.alike_line

-- ---- each call ends
-- The prover shows of every function of the code that it returns, whatever it is given: no statement here is needed for that. And no run makes more steps
-- than its budget.
pub run_steps : (g : Given) (b : ℕ) (s : State) → (run g b s).counts.steps ≤ s.counts.steps + b
run_steps = strokes.run_steps

pub call_steps : (l : Lent) (m : Machine) (im : List ℕ) (b : ℕ) → (run_call l m im b).result.counts.steps ≤ b
call_steps = strokes.call_steps

-- ---- what a refusal leaves
-- at a door: the machine and the image as given, and counts of 0 (of start and clear: start-16, clear-11)
pub run_turned_away : (l : Lent) (m : Machine) (im : List ℕ) (b : ℕ) → (run_door l m im b ≡ 0 → ⊥) → run_call l m im b ≡ turned_away m im (run_door l m im b)
run_turned_away = calls.call_shut

-- of an instruction: no pixel is changed, of the machine only the status, so that the counter is at its first word; and it is not counted
pub refused_instruction : (g : Given) (s : State) → (refusal g s.machine ≡ 0 → ⊥)
    → after s (step g s.machine) ≡ with_machine s (with_status s.machine (refusal g s.machine))
refused_instruction = runs.refused_only

-- in a run: the k steps before it stand, with their machine, their image and their counts
pub refused_in_a_run : (l : Lent) (m : Machine) (im : List ℕ) (b n : ℕ) → Among n refusal_numbers → (run_call l m im b).result.answer ≡ n
    → (k : ℕ) × ((k < b) × (((run (given l) k (begun m im)).counts.steps ≡ k) × (run_call l m im b ≡ refused_after n (run (given l) k (begun m im)))))
refused_in_a_run = calls.run_refused

-- ---- a run keeps the machine in range and the image's length
pub run_keeps_the_ranges : (g : Given) (b : ℕ) (s : State) → Fits s.machine → Fits (run g b s).machine
run_keeps_the_ranges = kept.run_fits

pub run_keeps_the_length : (g : Given) (b : ℕ) (s : State) → length (run g b s).image ≡ length s.image
run_keeps_the_length = kept.run_length

-- ---- every answer exactly when
module _ (f : List ℕ) where
  pub check_0 : (check_call f ≡ 0) ↔ Accepted f
  check_0 = file.check_0 f

  pub check_12 : (check_call f ≡ 12) ↔ ((length f < 2) ⊎ ((2 ≤ length f) × ((tag f ≡ 1) × (((1 ≤ segments f) × (segments f ≤ 8)) × (length f < header f)))))
  check_12 = file.check_12 f

  pub check_13 : (check_call f ≡ 13) ↔ ((2 ≤ length f) × (tag f ≡ 1 → ⊥))
  check_13 = file.check_13 f

  pub check_14 : (check_call f ≡ 14) ↔ ((2 ≤ length f) × ((tag f ≡ 1) × ((segments f ≡ 0) ⊎ (8 < segments f))))
  check_14 = file.check_14 f

  pub check_15 : (check_call f ≡ 15) ↔ (Head f × ((i : ℕ) × ((i < segments f) × (Keeps f i → ⊥))))
  check_15 = file.check_15 f

-- a fetch at an address of a file
module _ (f : List ℕ) (a : ℕ) where
  pub fetch_21 : (number_in (fetch f a) ≡ 21) ↔ (a % 2 ≡ 0 → ⊥)
  fetch_21 = file.fetch_21 f a

  pub fetch_22 : (number_in (fetch f a) ≡ 22) ↔ ((a % 2 ≡ 0) × (segments f ≤ segment_of a))
  fetch_22 = file.fetch_22 f a

  pub fetch_23 : (number_in (fetch f a) ≡ 23) ↔ ((a % 2 ≡ 0) × ((segment_of a < segments f) × (size f (segment_of a) ≤ place_of a)))
  fetch_23 = file.fetch_23 f a

  pub fetch_word : (fetch f a ≡ Ok (get_or f (offset f (segment_of a) + place_of a) 0)) ↔ ((a % 2 ≡ 0) × ((segment_of a < segments f) × (place_of a < size f (segment_of a))))
  fetch_word = file.fetch_word f a

-- a run
module _ (l : Lent) (m : Machine) (im : List ℕ) (b : ℕ) where
  abbrev answer : ℕ
  answer = (run_call l m im b).result.answer

  abbrev g : Given
  g = given l

  -- in a run whose doors are all open, a step was made from a running machine of which this holds
  abbrev Ends : (Machine → Type 0) → Type 0
  Ends Q = Open l m im b × During g b (begun m im) Q

  -- no other answer than these
  pub run_answers : Among answer (statuses ++ door_numbers)
  run_answers = calls.run_answers l m im b

  pub run_0 : (answer ≡ 0) ↔ (Open l m im b × (((run g b (begun m im)).machine.status ≡ 0) × ((run g b (begun m im)).counts.steps ≡ b)))
  run_0 = calls.run_0 l m im b

  pub run_1 : (answer ≡ 1) ↔ Ends (λ m. (number_in (first g m) ≡ 0) × (Stops (word g m) × LatchIs false m (word g m)))
  run_1 = calls.run_ended l m im b 1 refl _ (λ m f r. steps.step_stops g m f r false)

  pub run_2 : (answer ≡ 2) ↔ Ends (λ m. (number_in (first g m) ≡ 0) × (Stops (word g m) × LatchIs true m (word g m)))
  run_2 = calls.run_ended l m im b 2 refl _ (λ m f r. steps.step_stops g m f r true)

  pub run_11 : (answer ≡ 11) ↔ (length im ≡ image_bytes → ⊥)
  run_11 = calls.run_11 l m im b

  pub run_12 : (answer ≡ 12) ↔ ((length im ≡ image_bytes) × (check_call l.file ≡ 12))
  run_12 = calls.run_checked l m im b 12 refl

  pub run_13 : (answer ≡ 13) ↔ ((length im ≡ image_bytes) × (check_call l.file ≡ 13))
  run_13 = calls.run_checked l m im b 13 refl

  pub run_14 : (answer ≡ 14) ↔ ((length im ≡ image_bytes) × (check_call l.file ≡ 14))
  run_14 = calls.run_checked l m im b 14 refl

  pub run_15 : (answer ≡ 15) ↔ ((length im ≡ image_bytes) × (check_call l.file ≡ 15))
  run_15 = calls.run_checked l m im b 15 refl

  pub run_16 : (answer ≡ 16) ↔ ((length im ≡ image_bytes) × (Accepted l.file × (Fits m → ⊥)))
  run_16 = calls.run_16 l m im b

  pub run_17 : (answer ≡ 17) ↔ ((length im ≡ image_bytes) × (Accepted l.file × (Fits m × (1000000 < b))))
  run_17 = calls.run_17 l m im b

  -- a lent set of characters of neither 0 nor 760 bytes
  pub run_18 : (answer ≡ 18) ↔ ((length im ≡ image_bytes) × (Accepted l.file × (Fits m × ((b ≤ 1000000) × (Lendable l.set → ⊥)))))
  run_18 = calls.run_18 l m im b

  pub run_28 : (answer ≡ 28) ↔ ((length im ≡ image_bytes) × (Accepted l.file × (Fits m × ((b ≤ 1000000) × (Lendable l.set × (m.status ≡ 0 → ⊥))))))
  run_28 = calls.run_28 l m im b

  pub run_21 : (answer ≡ 21) ↔ Ends (FetchRefused 21 g)
  run_21 = calls.run_refusal l m im b 21 refl _ (λ m f. steps.refused_21 g m)

  pub run_22 : (answer ≡ 22) ↔ Ends (FetchRefused 22 g)
  run_22 = calls.run_refusal l m im b 22 refl _ (λ m f. steps.refused_22 g m)

  pub run_23 : (answer ≡ 23) ↔ Ends (FetchRefused 23 g)
  run_23 = calls.run_refusal l m im b 23 refl _ (λ m f. steps.refused_23 g m)

  pub run_24 : (answer ≡ 24) ↔ Ends (λ m. (number_in (first g m) ≡ 0) × NotBuilt (word g m))
  run_24 = calls.run_refusal l m im b 24 refl _ (λ m f. steps.refused_24 g m)

  pub run_25 : (answer ≡ 25) ↔ Ends (λ m. (number_in (first g m) ≡ 0) × NoMode m.mode (word g m))
  run_25 = calls.run_refusal l m im b 25 refl _ (λ m f. steps.refused_25 g m)

  pub run_26 : (answer ≡ 26) ↔ Ends (λ m. Begins g m × ((number_in (second g m) ≡ 0) × (Pair m.mode (word g m) × On 15 (more g m))))
  run_26 = calls.run_refusal l m im b 26 refl _ (λ m f. steps.refused_26 g m)

  pub run_27 : (answer ≡ 27) ↔ Ends (MovesOut g)
  run_27 = calls.run_refusal l m im b 27 refl _ (steps.refused_27 g)

  -- a code of a character outside 32 to 126, in either half of the word
  pub run_32 : (answer ≡ 32) ↔ Ends (λ m. (number_in (first g m) ≡ 0) × BadCode m.mode (word g m))
  run_32 = calls.run_refusal l m im b 32 refl _ (λ m f. steps.refused_32 g m)

-- 27 by the kind of the word. An order never gives it
module _ (g : Given) (m : Machine) where
  pub order_never_27 : Fits m → On 15 (word g m) → MovesOut g m → ⊥
  order_never_27 = moves.order_stays g m

  -- a vector or a relative point gives it exactly when X or Y and its move sum to less than -4,096 or more than 4,095; an absolute point never does; a graph
  -- word exactly when the coordinate that it steps along and the increment sum to more than 4,095; a word of two characters, both codes in
  -- 32 to 126, exactly when X and 32 do
  module _ (off : Off 15 (word g m)) where
    pub mode_0_27 : Fits m → m.mode ≡ 0
        → MovesOut g m ↔ ((number_in (first g m) ≡ 0) × ((HasCell (first_code (word g m)) × HasCell (second_code (word g m))) × (pos 4095 <ℤ (m.x.0 +ℤ pos 32))))
    mode_0_27 f e = moves.characters_out g m off e f

    pub mode_1_27 : m.mode ≡ 1 → MovesOut g m ↔ ((number_in (first g m) ≡ 0) × (Beyond m.x (short_x (word g m)) ⊎ Beyond m.y (short_y (word g m))))
    mode_1_27 = moves.short_out g m off

    pub mode_2_27 : m.mode ≡ 2
        → MovesOut g m ↔ (((number_in (first g m) ≡ 0) × ((number_in (second g m) ≡ 0) × Off 15 (more g m))) × (Beyond m.x (long (word g m)) ⊎ Beyond m.y (long (more g m))))
    mode_2_27 = moves.long_out g m off

    pub mode_3_never_27 : m.mode ≡ 3 → MovesOut g m → ⊥
    mode_3_never_27 = moves.absolute_stays g m off

    pub mode_4_27 : Fits m → m.mode ≡ 4 → MovesOut g m ↔ ((number_in (first g m) ≡ 0) × (pos 4095 <ℤ (m.y.0 +ℤ pos m.increment)))
    mode_4_27 = moves.graph_x_out g m off

    pub mode_5_27 : Fits m → m.mode ≡ 5 → MovesOut g m ↔ ((number_in (first g m) ≡ 0) × (pos 4095 <ℤ (m.x.0 +ℤ pos m.increment)))
    mode_5_27 = moves.graph_y_out g m off

    pub mode_6_27 : m.mode ≡ 6 → MovesOut g m ↔ ((number_in (first g m) ≡ 0) × (Beyond m.x (short_x (word g m)) ⊎ Beyond m.y (short_y (word g m))))
    mode_6_27 = moves.relative_out g m off

-- the other calls, and plot
pub start_0 : (m : Machine) (a : ℕ) → (start_call m a ≡ record { answer = 0; machine = started_at m a }) ↔ Fits m
start_0 = others.start_0

pub start_16 : (m : Machine) (a : ℕ) → (start_call m a ≡ record { answer = 16; machine = m }) ↔ (Fits m → ⊥)
start_16 = others.start_16

pub clear_0 : (im : List ℕ) → (clear_call im ≡ left 0 blank) ↔ (length im ≡ image_bytes)
clear_0 = others.clear_0

pub clear_11 : (im : List ℕ) → (clear_call im ≡ left 11 im) ↔ (length im ≡ image_bytes → ⊥)
clear_11 = others.clear_11

pub read_0 : (s : Shape) (im : List ℕ) (p : Pixel) → (read_call s im p ≡ record { answer = 0; digit = digit_at s im (nat_abs p.x.0) (nat_abs p.y.0) }) ↔ ((length im ≡ image_bytes) × InField s p)
read_0 = others.read_0

pub read_11 : (s : Shape) (im : List ℕ) (p : Pixel) → (read_call s im p ≡ record { answer = 11; digit = 0 }) ↔ (length im ≡ image_bytes → ⊥)
read_11 = others.read_11

pub read_31 : (s : Shape) (im : List ℕ) (p : Pixel) → (read_call s im p ≡ record { answer = 31; digit = 0 }) ↔ ((length im ≡ image_bytes) × (InField s p → ⊥))
read_31 = others.read_31

pub plot_19 : (bytes : List ℕ) → (plot_line bytes ≡ refused_line 19) ↔ ((length bytes % 2 ≡ 0 → ⊥) ⊎ (65536 < length bytes))
plot_19 = others.plot_19

-- for every other input: the number of the file's check and six zeros, or the line of the run
pub plot_refused : (bytes : List ℕ) → length bytes % 2 ≡ 0 → length bytes ≤ 65536 → (check_call (words_in bytes) ≡ 0 → ⊥) → plot_line bytes ≡ refused_line (check_call (words_in bytes))
plot_refused = others.plot_door

pub plot_ran : (bytes : List ℕ) → length bytes % 2 ≡ 0 → length bytes ≤ 65536 → check_call (words_in bytes) ≡ 0
    → plot_line bytes ≡ ran_line (run_call (plain (words_in bytes)) fresh blank plot_budget).result
plot_ran = others.plot_run

-- ==== Demand 2

-- ---- the plot comes before the step (of characters: character_stores and character_word, in Drawing.antt)
-- words of graph Y, lit or blank, run one after the other from any position with room for their steps: the whole state after them
pub graph_y_plots_then_steps : (g : Given) (s : State) (ws : List ℕ) → Ready AlongX g s ws → run g (length ws) s ≡ plotted AlongX s ws
graph_y_plots_then_steps = graphs.plot_then_step AlongX

pub graph_x_plots_then_steps : (g : Given) (s : State) (ws : List ℕ) → Ready AlongY g s ws → run g (length ws) s ≡ plotted AlongY s ws
graph_x_plots_then_steps = graphs.plot_then_step AlongY

-- of which: word k stands at the pixel of (start + k x increment, its value), and word 0 at that of the start's own column; for graph X, row
pub week_k : (h : Shape) (x : ℤ) (g k : ℕ) (ws : List ℕ) (d : Pixel) → k < length ws
    → get_or (weeks AlongX h x g 0 ws) k d ≡ pixel_at h (units (x +ℤ pos (k * g))) (coordinate (get_or ws k 0))
week_k = graphs.week_at_is AlongX

pub week_0 : (h : Shape) (x : ℤ) (g w : ℕ) (ws : List ℕ) (d : Pixel) → get_or (weeks AlongX h x g 0 (w ∷ ws)) 0 d ≡ pixel_at h (units x) (coordinate w)
week_0 = graphs.first_week AlongX

pub row_k : (h : Shape) (y : ℤ) (g k : ℕ) (ws : List ℕ) (d : Pixel) → k < length ws
    → get_or (weeks AlongY h y g 0 ws) k d ≡ pixel_at h (coordinate (get_or ws k 0)) (units (y +ℤ pos (k * g)))
row_k = graphs.week_at_is AlongY

pub row_0 : (h : Shape) (y : ℤ) (g w : ℕ) (ws : List ℕ) (d : Pixel) → get_or (weeks AlongY h y g 0 (w ∷ ws)) 0 d ≡ pixel_at h (coordinate w) (units y)
row_0 = graphs.first_week AlongY

-- the image is the one before with the pixels of the lit words stored, and the position ends one increment past the last word
pub week_picture : (g : Given) (s : State) (ws : List ℕ) → Ready AlongX g s ws
    → (run g (length ws) s).image ≡ stores (shape_of s.machine) (pen_of s.machine) s.image (shown s.machine (of_lit ws (weeks AlongX (shape_of s.machine) s.machine.x.0 s.machine.increment 0 ws)))
week_picture g s ws r = ap (λ (t : State). t.image) (graphs.plot_then_step AlongX g s ws r)

pub row_picture : (g : Given) (s : State) (ws : List ℕ) → Ready AlongY g s ws
    → (run g (length ws) s).image ≡ stores (shape_of s.machine) (pen_of s.machine) s.image (shown s.machine (of_lit ws (weeks AlongY (shape_of s.machine) s.machine.y.0 s.machine.increment 0 ws)))
row_picture g s ws r = ap (λ (t : State). t.image) (graphs.plot_then_step AlongY g s ws r)

pub week_position : (g : Given) (s : State) (ws : List ℕ) → Ready AlongX g s ws → (run g (length ws) s).machine.x ≡ units (s.machine.x.0 +ℤ pos (length ws * s.machine.increment))
week_position g s ws r = ap (λ (t : State). t.machine.x) (graphs.plot_then_step AlongX g s ws r)

pub row_position : (g : Given) (s : State) (ws : List ℕ) → Ready AlongY g s ws → (run g (length ws) s).machine.y ≡ units (s.machine.y.0 +ℤ pos (length ws * s.machine.increment))
row_position g s ws r = ap (λ (t : State). t.machine.y) (graphs.plot_then_step AlongY g s ws r)

-- ---- nothing is hidden between steps: a run of b + c is a run of b and then one of c, the counts summed
pub runs_in_a_row : (g : Given) (b c : ℕ) (m : Machine) (im : List ℕ)
    → run g (b + c) (begun m im) ≡ plus (run g b (begun m im)).counts (run g c (begun (run g b (begun m im)).machine (run g b (begun m im)).image))
runs_in_a_row = runs.run_twice

-- ==== Demand 3

-- ---- drift does not build up
-- whatever the budget: a coordinate is where it was last set, or where it began, and the sum of what the instructions completed after that moved it by, the
-- advance of characters among them
pub no_drift_x : (g : Given) (b : ℕ) (s : State) → (run g b s).machine.x ≡ settled s.machine.x (changes (λ w. w.x) s.machine.increment (completed g b s))
no_drift_x = drift.no_drift_x

pub no_drift_y : (g : Given) (b : ℕ) (s : State) → (run g b s).machine.y ≡ settled s.machine.y (changes (λ w. w.y) s.machine.increment (completed g b s))
no_drift_y = drift.no_drift_y

-- and the ledger has every completed instruction
pub nothing_left_out : (g : Given) (b : ℕ) (s : State) → (run g b s).counts.steps ≡ s.counts.steps + length (completed g b s)
nothing_left_out = drift.completed_all

-- ---- the pixel of a unit: where d units make a pixel, d p ≤ u < d p + d, and no other p
pub pixel_floor : (d : ℕ) (u : Units) (p : ℤ) → 0 < d → ((pixels_of d u).0 ≡ p) ↔ (((pos d *ℤ p) ≤ℤ u.0) × (u.0 <ℤ (pos d *ℤ p +ℤ pos d)))
pixel_floor = near.pixel_floor

-- ---- a vector's pixels lie near the exact line (that a run stores them: vector_origin and vector_drawn, in Drawing.antt)
-- there are n + 1 of them; pixel 0 is its start's, and pixel n its end's
pub vector_length : (a b : Pixel) → length (vector a b) ≡ suc (longer a b)
vector_length = vectors.vector_length

pub vector_ends : (a b d : Pixel) → (get_or (vector a b) 0 d ≡ a) × (get_or (vector a b) (longer a b) d ≡ b)
vector_ends a b d = (vectors.vector_first a b d, vectors.vector_last a b d)

-- 2n times pixel i differs from its exact point's numerator by less than 2n, across and up
pub vector_near : (x y x' y' : Units) (i : ℕ) (d : Pixel) → 0 < longer (pixel_at square x y) (pixel_at square x' y') → i ≤ longer (pixel_at square x y) (pixel_at square x' y')
    → let n = longer (pixel_at square x y) (pixel_at square x' y') in
    let p = get_or (vector (pixel_at square x y) (pixel_at square x' y')) i d in
    (nat_abs (pos (2 * n) *ℤ p.x.0 -ℤ exact x.0 x'.0 n i) < 2 * n) × (nat_abs (pos (2 * n) *ℤ p.y.0 -ℤ exact y.0 y'.0 n i) < 2 * n)
vector_near = vectors.vector_near

-- where n is 0 there is one pixel, and twice it is within 1 of either end
pub one_pixel : (a b : Pixel) → longer a b ≡ 0 → vector a b ≡ a ∷ []
one_pixel = vectors.vector_point

pub one_pixel_near : (x y x' y' : Units) → longer (pixel_at square x y) (pixel_at square x' y') ≡ 0
    → let p = pixel_at square x y in
    (nat_abs (pos 2 *ℤ p.x.0 -ℤ x.0) ≤ 1) × (nat_abs (pos 2 *ℤ p.x.0 -ℤ x'.0) ≤ 1) × (nat_abs (pos 2 *ℤ p.y.0 -ℤ y.0) ≤ 1) × (nat_abs (pos 2 *ℤ p.y.0 -ℤ y'.0) ≤ 1)
one_pixel_near = vectors.point_near

-- ---- a vector drawn backwards has the same pixels, in the reverse order, and leaves the same image
pub vector_backwards : (a b : Pixel) → vector b a ≡ reverse (vector a b)
vector_backwards = vectors.vector_turned

pub image_backwards : (m : Machine) → Fits m → (im : List ℕ) (a b : Pixel)
    → stores (shape_of m) (pen_of m) im (inside (shape_of m) (vector b a)) ≡ stores (shape_of m) (pen_of m) im (inside (shape_of m) (vector a b))
image_backwards m f = vectors.same_image (shape_of m) (pen_of m) (kept.pen_fits m f)

-- ==== One outcome: two outcomes that the promise of a call allows are equal

pub one_check : (f : List ℕ) {n n' : ℕ} → PromiseCheck f n → PromiseCheck f n' → n ≡ n'
one_check f p q = p ∙ sym q

pub one_fresh : {m m' : Machine} → PromiseFresh m → PromiseFresh m' → m ≡ m'
one_fresh p q = p ∙ sym q

pub one_start : (m : Machine) (a : ℕ) {r r' : Started} → PromiseStart m a r → PromiseStart m a r' → r ≡ r'
one_start m a p q = p ∙ sym q

pub one_run : (l : Lent) (m : Machine) (im : List ℕ) (b : ℕ) {r r' : Ran} {im' im'' : List ℕ} → PromiseRun l m im b r im' → PromiseRun l m im b r' im'' → (r ≡ r') × (im' ≡ im'')
one_run l m im b p q = (ap (λ (o : Left Ran). o.result) (p ∙ sym q), ap (λ (o : Left Ran). o.image) (p ∙ sym q))

pub one_step : (l : Lent) (m : Machine) (im : List ℕ) {r r' : Ran} {im' im'' : List ℕ} → PromiseStep l m im r im' → PromiseStep l m im r' im'' → (r ≡ r') × (im' ≡ im'')
one_step l m im p q = one_run l m im 1 p q

pub one_clear : (im : List ℕ) {n n' : ℕ} {im' im'' : List ℕ} → PromiseClear im n im' → PromiseClear im n' im'' → (n ≡ n') × (im' ≡ im'')
one_clear im p q = (ap (λ (o : Left ℕ). o.result) (p ∙ sym q), ap (λ (o : Left ℕ). o.image) (p ∙ sym q))

pub one_read : (im : List ℕ) (p : Pixel) {r r' : Read} → PromiseRead im p r → PromiseRead im p r' → r ≡ r'
one_read im p q q' = q ∙ sym q'

-- ---- check, start, clear and read-pixel return a result: its promise allows one result, and not only one number
pub one_check_result : (f : List ℕ) {r r' : Result (Unit {0}) Refusal} → PromiseCheck f (answer_of r) → PromiseCheck f (answer_of r') → r ≡ r'
one_check_result f p q = refusals.answers_differ _ _ (one_check f p q)

pub one_start_result : (m : Machine) (a : ℕ) {r r' : Result Machine Refusal} → PromiseStart m a (started_of m r) → PromiseStart m a (started_of m r') → r ≡ r'
one_start_result m a p q = refusals.starts_differ m _ _ (one_start m a p q)

pub one_clear_result : (im : List ℕ) {r r' : Result (Unit {0}) Refusal} {im' im'' : List ℕ} → PromiseClear im (answer_of r) im' → PromiseClear im (answer_of r') im'' → (r ≡ r') × (im' ≡ im'')
one_clear_result im p q = let one = one_clear im p q in (refusals.answers_differ _ _ one.0, one.1)

pub one_read_result : (im : List ℕ) (p : Pixel) {r r' : Result ℕ Refusal} → PromiseRead im p (read_of r) → PromiseRead im p (read_of r') → r ≡ r'
one_read_result im p q q' = refusals.reads_differ _ _ (one_read im p q q')
