-- Plot before step: word k of a list of graph words stands k increments from the start, and the position ends one increment past the last.
use Prim.Native.Nat.{ℕ, zero, suc, ◌+◌, ◌*◌, ◌/◌, ◌%◌, ◌<◌}
use mathlib.Core.Bool.{Bool, true, false, ◌&&◌}
use mathlib.Core.List.{List, [], ◌∷◌, ◌++◌}
use mathlib.Core.Path.{◌≡◌, refl, sym, ap, ◌∙◌}
use native.Mathlib.Omega.{arith}
use native.Mathlib.Nat.{add_assoc, add-zero, zero-add}
use lib.ListN.{length, length-append, get_or}
use lib.IntN.{ℤ, pos, negsuc, ◌+ℤ◌}
use lib.Signed.{◌≤ℤ◌}
use borrow.Author.Tests.{eq-eqb, ne_eqb}
use Rattle.whole.specs.Parts.{whole, add}
use Rattle.definition.specs.Choice.{pick, first_of}
use Rattle.definition.specs.Units.{units, moved}
use Rattle.definition.specs.Image.{Shape, inside, stores}
use Rattle.definition.specs.File.{fetch_refusals}
use Rattle.definition.specs.Words.{bit, coordinate, item, decode, first_refusals, second_refusals}
use Rattle.definition.specs.Machine.{next, with_counter, shape_of, pen_of}
use Rattle.definition.specs.Step.{Given, way_refusals, refusals, refusal, done, Step, step}
use Rattle.definition.specs.Run.{State, after, run}
use Rattle.definition.specs.declared.Units.{Units}
use Rattle.definition.specs.declared.Pixel.{Pixel}
use Rattle.definition.specs.declared.Machine.{Machine}
use Rattle.std.specs.Prelude.{Ok}
use Rattle.definition.specs.declared.Item.{Item}
use Rattle.definition.specs.declared.Item.TheVariants.{GraphX, GraphY}
use Rattle.definition.specs.declared.Instruction.TheVariants.{Draws}
use Rattle.definition.proofs.StoreLaws.{stores_append, inside_append}
use Rattle.demands.specs.Conditions.{InRange, Off}
use Rattle.demands.specs.Graphs.{Axis, AlongX, AlongY, AllLit, mode_of, stepped, valued, placed, pixel_on, weeks, of_lit, shown, went, Ready, plotted}
use Rattle.definition.proofs.StepLaws.{on, step_done, run_turn}
use Rattle.demands.proofs.Kept.{in_range_is}

-- ---- one word
abbrev item_of : Axis → Units → Item
item_of AlongX v = GraphY v
item_of AlongY v = GraphX v

-- a data word: bit 15 clear
pub clear_15 : (w : ℕ) → Off 15 w → bit 15 w ≡ false
clear_15 w e = ne_eqb (w / 32768 % 2) 1 (λ q. omega arith)

decoded : (axis : Axis) (w : ℕ) → Off 15 w → decode (mode_of axis) w ≡ Draws (bit 14 w) (item_of axis (coordinate w))
unfolding decode item
decoded AlongX w e = rw (clear_15 w e)
decoded AlongY w e = rw (clear_15 w e)

-- a coordinate of a word is in range
pub coordinate_in : (w : ℕ) → InRange (coordinate w)
coordinate_in w = record { low = omega whole; high = omega whole }

-- one increment on
abbrev pub grown : Axis → Machine → Units
grown axis m = moved (stepped axis m) (units (pos m.increment))

-- what a word lights: its place, where it is lit
abbrev pub mark : ℕ → Pixel → List Pixel
mark w p = pick (bit 14 w) (p ∷ []) []

-- and what of it is stored
mark_shown : (h : Shape) (l on : Bool) (ps : List Pixel) → pick (l && on) (inside h ps) [] ≡ pick on (inside h (pick l ps [])) []
unfolding inside
mark_shown h true on ps = refl
mark_shown h false true ps = refl
mark_shown h false false ps = refl

module _ (g : Given) (s : State) (w : ℕ) (here : g.memory s.machine.counter ≡ Ok w) (data_word : Off 15 w) where
  abbrev m : Machine
  m = s.machine

  -- no refusal: the word is a graph word, and the coordinate that it steps stays in range
  free : (axis : Axis) → m.mode ≡ mode_of axis → InRange (grown axis m) → refusal g m ≡ 0
  unfolding refusal refusals fetch_refusals first_refusals second_refusals way_refusals first_of
  free AlongX five fits = rw (here, five, decoded AlongX w data_word, clear_15 w data_word, in_range_is.1 fits, in_range_is.1 (coordinate_in w))
  free AlongY four fits = rw (here, four, decoded AlongY w data_word, clear_15 w data_word, in_range_is.1 fits, in_range_is.1 (coordinate_in w))

  -- the point is plotted where the machine stands, and the step comes after it
  abbrev plots_once : Axis → Step
  plots_once axis = record { machine = placed axis (with_counter m (next m.counter)) (grown axis m) (coordinate w); steps = 1; words = 1; pixels = shown m (mark w (pixel_on axis (shape_of m) (stepped axis m) (coordinate w))) }

  pub one_step : (axis : Axis) → m.mode ≡ mode_of axis → InRange (grown axis m) → step g m ≡ plots_once axis
  unfolding done
  one_step AlongX five fits = step_done g m (free AlongX five fits) ∙ rw (here, five, decoded AlongX w data_word, mark_shown (shape_of m) (bit 14 w) m.write (pixel_on AlongX (shape_of m) m.x (coordinate w) ∷ []))
  one_step AlongY four fits = step_done g m (free AlongY four fits) ∙ rw (here, four, decoded AlongY w data_word, mark_shown (shape_of m) (bit 14 w) m.write (pixel_on AlongY (shape_of m) m.y (coordinate w) ∷ []))

  pub one_word : (axis : Axis) → m.mode ≡ mode_of axis → InRange (grown axis m)
      → on g s ≡ went axis s (next m.counter) (grown axis m) (coordinate w) 1 (mark w (pixel_on axis (shape_of m) (stepped axis m) (coordinate w)))
  one_word axis mode fits = ap (after s) (one_step axis mode fits)

-- ---- one word after the other
pub shown_append : (m : Machine) (ps qs : List Pixel) → shown m (ps ++ qs) ≡ shown m ps ++ shown m qs
shown_append m ps qs = go m.write
  where
    go : (on : Bool) → pick on (inside (shape_of m) (ps ++ qs)) [] ≡ pick on (inside (shape_of m) ps) [] ++ pick on (inside (shape_of m) qs) []
    go true = inside_append (shape_of m) ps qs
    go false = refl

went_twice : (axis : Axis) (s : State) (a a' : ℕ) (u u' v v' : Units) (n n' : ℕ) (ps qs : List Pixel)
    → went axis (went axis s a u v n ps) a' u' v' n' qs ≡ went axis s a' u' v' (n + n') (ps ++ qs)
went_twice AlongX s a a' u u' v v' n n' ps qs =
    let m = s.machine in
    simp (shown_append m ps qs, stores_append (shape_of m) (pen_of m) s.image (shown m ps) (shown m qs), length-append (shown m ps) (shown m qs), add_assoc)
went_twice AlongY s a a' u u' v v' n n' ps qs =
    let m = s.machine in
    simp (shown_append m ps qs, stores_append (shape_of m) (pen_of m) s.image (shown m ps) (shown m qs), length-append (shown m ps) (shown m qs), add_assoc)

pub shown_none : (m : Machine) → shown m [] ≡ []
unfolding inside
shown_none m = go m.write
  where
    go : (on : Bool) → pick on (inside (shape_of m) []) [] ≡ []
    go true = refl
    go false = refl

went_nowhere : (axis : Axis) (s : State) (u : Units) → u ≡ stepped axis s.machine → went axis s s.machine.counter u (valued axis s.machine) 0 [] ≡ s
unfolding stores
went_nowhere AlongX s u e = simp (shown_none s.machine, e, add-zero)
went_nowhere AlongY s u e = simp (shown_none s.machine, e, add-zero)

-- from one increment further on, the words have one number less
pub shift : (axis : Axis) (h : Shape) (x : ℤ) (g k : ℕ) (ws : List ℕ) → weeks axis h (x +ℤ pos g) g k ws ≡ weeks axis h x g (suc k) ws
shift axis h x g k [] = refl
shift axis h x g k (w ∷ ws) =
    let e : (x +ℤ pos g) +ℤ pos (k * g) ≡ x +ℤ pos (suc k * g) = omega (whole, add x (pos g), add (x +ℤ pos g) (pos (k * g)), add x (pos (suc k * g))) in
    rw (e, shift axis h x g (suc k) ws)

further : (x : ℤ) (g n : ℕ) → (x +ℤ pos g) +ℤ pos (n * g) ≡ x +ℤ pos (suc n * g)
further x g n = omega (whole, add x (pos g), add (x +ℤ pos g) (pos (n * g)), add x (pos (suc n * g)))

pub from_here : (x : ℤ) (g : ℕ) → x +ℤ pos (0 * g) ≡ x
from_here x g = omega (whole, add x (pos (0 * g)))

-- the state after the first word, and the rest from there
abbrev pub begins : Axis → State → ℕ → State
begins axis s w = went axis s (next s.machine.counter) (grown axis s.machine) (coordinate w) 1 (mark w (pixel_on axis (shape_of s.machine) (stepped axis s.machine) (coordinate w)))

-- a mark before those of the other words
pub mark_first : (l : Bool) (p : Pixel) (ps : List Pixel) → pick l (p ∷ []) [] ++ ps ≡ pick l (p ∷ ps) ps
mark_first true p ps = refl
mark_first false p ps = refl

-- the same end, counted from the first word and from the second
same_end : (axis : Axis) (s : State) (a w : ℕ) (x : ℤ) (v : Units) (g : ℕ) (ws : List ℕ) → let h = shape_of s.machine in
    went axis s a (units ((x +ℤ pos g) +ℤ pos (length ws * g))) v (1 + length ws) (mark w (pixel_on axis h (units x) (coordinate w)) ++ of_lit ws (weeks axis h (x +ℤ pos g) g 0 ws))
    ≡ went axis s a (units (x +ℤ pos (length (w ∷ ws) * g))) v (length (w ∷ ws)) (of_lit (w ∷ ws) (weeks axis h x g 0 (w ∷ ws)))
same_end axis s a w x v g ws =
    let e : 1 + length ws ≡ suc (length ws) = omega arith in
    rw (further x g (length ws), shift axis (shape_of s.machine) x g 0 ws, from_here x g, e, mark_first)

the_rest : (axis : Axis) (s : State) (w : ℕ) (ws : List ℕ) → plotted axis (begins axis s w) ws ≡ plotted axis s (w ∷ ws)
unfolding moved
the_rest AlongX s w ws =
    went_twice AlongX s (next s.machine.counter) _ (grown AlongX s.machine) _ (coordinate w) _ 1 (length ws) _ _
    ∙ same_end AlongX s _ w s.machine.x.0 _ s.machine.increment ws
the_rest AlongY s w ws =
    went_twice AlongY s (next s.machine.counter) _ (grown AlongY s.machine) _ (coordinate w) _ 1 (length ws) _ _
    ∙ same_end AlongY s _ w s.machine.y.0 _ s.machine.increment ws

-- the first word fits, and what is left is ready for the others
grown_in : (x : ℤ) (g n : ℕ) → negsuc 4095 ≤ℤ x → (x +ℤ pos (suc n * g)) ≤ℤ pos 4095 → InRange (units (x +ℤ pos g))
grown_in x g n lo hi = record { low = omega (whole, add x (pos g)); high = omega (whole, add x (pos g), add x (pos (suc n * g))) }

pub first_fits : (axis : Axis) (g : Given) (s : State) (w : ℕ) (ws : List ℕ) → Ready axis g s (w ∷ ws) → InRange (grown axis s.machine)
unfolding moved
first_fits axis g s w ws r = grown_in (stepped axis s.machine).0 s.machine.increment (length ws) r.low r.room

pub still_ready : (axis : Axis) (g : Given) (s : State) (w : ℕ) (ws : List ℕ) → Ready axis g s (w ∷ ws) → Ready axis g (begins axis s w) ws
unfolding moved
still_ready AlongX g s w ws r =
    let x = s.machine.x.0 in
    let i = s.machine.increment in
    record { running = r.running; mode = r.mode; words = r.words.1; data_words = r.data_words.1; low = (first_fits AlongX g s w ws r).low; room = rw (further x i (length ws)) r.room }
still_ready AlongY g s w ws r =
    let y = s.machine.y.0 in
    let i = s.machine.increment in
    record { running = r.running; mode = r.mode; words = r.words.1; data_words = r.data_words.1; low = (first_fits AlongY g s w ws r).low; room = rw (further y i (length ws)) r.room }

-- ---- the theorem
pub plot_then_step : (axis : Axis) (g : Given) (s : State) (ws : List ℕ) → Ready axis g s ws → run g (length ws) s ≡ plotted axis s ws
unfolding run
plot_then_step axis g s [] r = sym (went_nowhere axis s _ (ap units (from_here (stepped axis s.machine).0 s.machine.increment)))
plot_then_step axis g s (w ∷ ws) r =
    run_turn g (length ws) s r.running
    ∙ ap (run g (length ws)) (one_word g s w r.words.0 r.data_words.0 axis r.mode (first_fits axis g s w ws r))
    ∙ plot_then_step axis g (begins axis s w) ws (still_ready axis g s w ws r)
    ∙ the_rest axis s w ws

-- ---- word k of the list, by its number
from_j : (axis : Axis) (h : Shape) (x : ℤ) (g j k : ℕ) (ws : List ℕ) (d : Pixel) → k < length ws
    → get_or (weeks axis h x g j ws) k d ≡ pixel_on axis h (units (x +ℤ pos ((j + k) * g))) (coordinate (get_or ws k 0))
from_j axis h x g j k [] d p = absurd (omega arith)
from_j axis h x g j zero (w ∷ ws) d p = rw (add-zero j)
from_j axis h x g j (suc k) (w ∷ ws) d p = let e : suc j + k ≡ j + suc k = omega arith in from_j axis h x g (suc j) k ws d (omega arith) ∙ rw e

pub week_at_is : (axis : Axis) (h : Shape) (x : ℤ) (g k : ℕ) (ws : List ℕ) (d : Pixel) → k < length ws
    → get_or (weeks axis h x g 0 ws) k d ≡ pixel_on axis h (units (x +ℤ pos (k * g))) (coordinate (get_or ws k 0))
week_at_is axis h x g k ws d p = from_j axis h x g 0 k ws d p ∙ rw zero-add

pub first_week : (axis : Axis) (h : Shape) (x : ℤ) (g w : ℕ) (ws : List ℕ) (d : Pixel) → get_or (weeks axis h x g 0 (w ∷ ws)) 0 d ≡ pixel_on axis h (units x) (coordinate w)
first_week axis h x g w ws d = rw (from_here x g)

-- where every word is lit, the places of the lit ones are all
pub all_lit : (axis : Axis) (h : Shape) (x : ℤ) (g j : ℕ) (ws : List ℕ) → AllLit ws → of_lit ws (weeks axis h x g j ws) ≡ weeks axis h x g j ws
all_lit axis h x g j [] a = refl
all_lit axis h x g j (w ∷ ws) a = rw (eq-eqb (w / 16384 % 2) 1 a.0, all_lit axis h x g (suc j) ws a.1)
