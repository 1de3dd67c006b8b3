-- A run's strokes: they make its image, and are as many as the stores counted; the words counted are those of the ledger.
use Prim.Native.Nat.{ℕ, zero, suc, ◌+◌, ◌≤◌}
use mathlib.Core.Bool.{Bool, true, false}
use mathlib.Core.List.{List, [], ◌∷◌, ◌++◌}
use mathlib.Core.Path.{◌≡◌, refl, sym, ap, ◌∙◌}
use native.Mathlib.Omega.{arith}
use native.Mathlib.Nat.{zero-add}
use native.Mathlib.Decide.{ℕ_discrete}
use lib.Dec.{eqb}
use lib.ListN.{length, length-append}
use lib.IntN.{nat_abs}
use Rattle.definition.specs.Choice.{pick}
use Rattle.definition.specs.Image.{store, stores, Left}
use Rattle.definition.specs.File.{word_in}
use Rattle.definition.specs.Words.{words_of}
use Rattle.definition.specs.Machine.{shape_of, pen_of}
use Rattle.definition.specs.Step.{stored_of, done, Given, second, instruction, refusal, step}
use Rattle.definition.specs.Run.{State, begun, run}
use Rattle.definition.specs.Calls.{Lent, given, run_door, answered, run_call}
use Rattle.definition.specs.declared.Pixel.{Pixel}
use Rattle.definition.specs.declared.Machine.{Machine}
use Rattle.definition.specs.declared.Ran.{Ran}
use Rattle.definition.proofs.StepLaws.{step_keeps, on, step_done}
use Rattle.demands.specs.Conditions.{Open}
use Rattle.demands.specs.Ledger.{completed}
use Rattle.demands.specs.Strokes.{Stroke, strokes_of, strokes_by, strokes, drawn, stroked, ledger_words}
use Rattle.demands.proofs.Runs.{refused_only, by_turns}
use Rattle.demands.proofs.CallAnswers.{door_0, call_shut, call_open}

-- ---- the strokes of a list of pixels
module _ (m : Machine) where
  pub drawn_of : (im : List ℕ) (ps : List Pixel) → drawn im (strokes_of m ps) ≡ stores (shape_of m) (pen_of m) im ps
  unfolding stores
  drawn_of im [] = refl
  drawn_of im (p ∷ ps) = drawn_of (store (shape_of m) (pen_of m) im (nat_abs p.x.0) (nat_abs p.y.0)) ps

  pub strokes_length : (ps : List Pixel) → length (strokes_of m ps) ≡ length ps
  strokes_length [] = refl
  strokes_length (p ∷ ps) = ap suc (strokes_length ps)

pub drawn_append : (im : List ℕ) (ts us : List Stroke) → drawn im (ts ++ us) ≡ drawn (drawn im ts) us
drawn_append im [] us = refl
drawn_append im (t ∷ ts) us = drawn_append (stroked im t) ts us

module _ (g : Given) where
  -- a completed instruction: the machine after it, and what it stores and counts
  module _ (s : State) (z : refusal g s.machine ≡ 0) where
    abbrev m : Machine
    m = s.machine

    abbrev lit : List Pixel
    lit = stored_of g m (instruction g m) (word_in (second g m))

    pub done_next : (on g s).machine ≡ done m (instruction g m) (word_in (second g m))
    done_next = rw (step_done g m z)

    image_next : (on g s).image ≡ drawn s.image (strokes_of m lit)
    image_next = rw (step_done g m z) (sym (drawn_of m s.image lit))

  pub run_image : (b : ℕ) (s : State) → (run g b s).image ≡ drawn s.image (strokes g b s)
  unfolding strokes
  run_image b s =
      by_turns g (λ s es r. r.image ≡ drawn s.image (strokes_by g s.machine es))
      (λ s. refl)
      (λ s h. ap (λ (r : State). r.image) (refused_only g s h))
      (λ s es r z ih.
      ih
      ∙ rw (done_next s z, image_next s z) (sym (drawn_append s.image (strokes_of s.machine (lit s z)) (strokes_by g (done s.machine (instruction g s.machine) (word_in (second g s.machine))) es))))
      b s

  pub run_stores : (b : ℕ) (s : State) → (run g b s).counts.stores ≡ s.counts.stores + length (strokes g b s)
  unfolding strokes
  run_stores b s =
      by_turns g (λ s es r. r.counts.stores ≡ s.counts.stores + length (strokes_by g s.machine es))
      (λ s. omega arith)
      (λ s h. ap (λ (r : State). r.counts.stores) (refused_only g s h) ∙ omega arith)
      (λ s es r z ih.
      let m = s.machine in
      let c : (step g m).pixels ≡ lit s z = rw (step_done g m z) in
      let l = length-append (strokes_of m (lit s z)) (strokes_by g (done m (instruction g m) (word_in (second g m))) es) in
      let k = strokes_length m (lit s z) in
      let h = rw (done_next s z, c) at ih in
      omega arith)
      b s

  pub run_words : (b : ℕ) (s : State) → (run g b s).counts.words ≡ s.counts.words + ledger_words (completed g b s)
  run_words b s =
      by_turns g (λ s es r. r.counts.words ≡ s.counts.words + ledger_words es)
      (λ s. omega arith)
      (λ s h. ap (λ (r : State). r.counts.words) (refused_only g s h) ∙ omega arith)
      (λ s es r z ih. let m = s.machine in let c : (step g m).words ≡ words_of (instruction g m) = rw (step_done g m z) in omega arith)
      b s

  -- and a run makes at most as many steps as its budget
  pub run_steps : (b : ℕ) (s : State) → (run g b s).counts.steps ≤ s.counts.steps + b
  unfolding run
  run_steps zero s = omega arith
  run_steps (suc b) s = go (eqb s.machine.status 0) (run_steps b (on g s))
    where
      one : (step g s.machine).steps ≤ 1
      one = step_keeps g (λ t. t.steps ≤ 1) s.machine (λ z. omega arith) (omega arith)

      go : (t : Bool) → (run g b (on g s)).counts.steps ≤ (on g s).counts.steps + b → (pick t (run g b (on g s)) s).counts.steps ≤ s.counts.steps + suc b
      go true ih = let l = one in omega arith
      go false ih = omega arith

-- ---- a call whose doors are open: its image, and its counts, which begin at nothing
module _ (l : Lent) (m : Machine) (im : List ℕ) (b : ℕ) (o : Open l m im b) where
  abbrev s : State
  s = begun m im

  ran : run_call l m im b ≡ answered (run (given l) b s)
  ran = call_open l m im b ((door_0 l m im b).1 o)

  pub call_image : (run_call l m im b).image ≡ drawn im (strokes (given l) b s)
  call_image = ap (λ (r : Left Ran). r.image) ran ∙ run_image (given l) b s

  pub call_stores : (run_call l m im b).result.counts.stores ≡ length (strokes (given l) b s)
  call_stores = ap (λ (r : Left Ran). r.result.counts.stores) ran ∙ run_stores (given l) b s ∙ zero-add _

  pub call_words : (run_call l m im b).result.counts.words ≡ ledger_words (completed (given l) b s)
  call_words = ap (λ (r : Left Ran). r.result.counts.words) ran ∙ run_words (given l) b s ∙ zero-add _

-- and of every call: it makes at most as many steps as its budget
pub call_steps : (l : Lent) (m : Machine) (im : List ℕ) (b : ℕ) → (run_call l m im b).result.counts.steps ≤ b
call_steps l m im b = go (ℕ_discrete (run_door l m im b) 0)
  where
    go : Dec (run_door l m im b ≡ 0) → (run_call l m im b).result.counts.steps ≤ b
    go (yes e) = let c = ap (λ (r : Left Ran). r.result.counts.steps) (call_open l m im b e) in let k = run_steps (given l) b (begun m im) in omega arith
    go (no h) = let c = ap (λ (r : Left Ran). r.result.counts.steps) (call_shut l m im b h) in omega arith
