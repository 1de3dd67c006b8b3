-- The line of an input: refused by 19, or else the line of the run of its words.
use Prim.Native.Nat.{ℕ, ◌%◌, ◌≤◌, ◌<◌}
use mathlib.Core.Bool.{Bool, true, false, not, ◌||◌}
use mathlib.Core.List.{List}
use mathlib.Core.Path.{◌≡◌, refl, sym, ap, ◌∙◌}
use lib.Dec.{eqb}
use lib.IntN.{ℤ}
use lib.ListN.{length}
use borrow.Author.Tests.{lt-ltb, le-ltb, eq-eqb, ne_eqb}
use Rattle.definition.specs.Choice.{pick, first_of}
use Rattle.definition.specs.Image.{blank, Left, left}
use Rattle.definition.specs.Machine.{fresh}
use Rattle.definition.specs.Run.{begun, run}
use Rattle.definition.specs.Calls.{plain, given, run_door, answered, turned_away, run_call}
use Rattle.definition.specs.Plot.{words_in, input_doors, plot_budget, ran_line, refused_line, plot_line}
use Rattle.definition.specs.declared.Machine.{Machine}
use Rattle.definition.specs.declared.Ran.{Ran}

-- a run that is refused at a door leaves the fresh machine as given, whose numbers are all 0: the line of the refusal is that of the run
refused_or_ran : (t : Bool) (n : ℕ) (s : Left Ran) {r : Ran} → r ≡ (pick t s (turned_away fresh blank n)).result → pick t (ran_line r) (refused_line n) ≡ ran_line r
refused_or_ran true n s e = refl
refused_or_ran false n s e = ap ran_line (sym e)

module _ (f : List ℕ) where
  abbrev door : ℕ
  door = run_door (plain f) fresh blank plot_budget

  abbrev pub outcome : Ran
  outcome = (run_call (plain f) fresh blank plot_budget).result

  pub fresh_run : {m : Machine} {image after : List ℕ} {b : ℕ} {r : Ran} {line : List ℤ} → left r after ≡ run_call (plain f) m image b → m ≡ fresh → image ≡ blank → b ≡ plot_budget
      → line ≡ ran_line r → line ≡ ran_line outcome
  fresh_run er em ei eb e = e ∙ ap (λ (l : Left Ran). ran_line l.result) (rw (em, ei, eb) at er)

  line_of_the_run : pick (eqb door 0) (ran_line outcome) (refused_line door) ≡ ran_line outcome
  unfolding run_call
  line_of_the_run = refused_or_ran (eqb door 0) door (answered (run (given (plain f)) plot_budget (begun fresh blank))) refl

-- ---- the cases of an input
module _ (bytes : List ℕ) {line : List ℤ} where
  pub odd : (length bytes % 2 ≡ 0 → ⊥) → line ≡ refused_line 19 → line ≡ plot_line bytes
  unfolding plot_line input_doors first_of
  odd p e = rw (ne_eqb _ _ p) e

  pub too_long : 65536 < length bytes → line ≡ refused_line 19 → line ≡ plot_line bytes
  unfolding plot_line input_doors first_of
  too_long p e = rw (lt-ltb _ _ p, whichever (not (eqb (length bytes % 2) 0))) e
    where
      whichever : (t : Bool) → t || true ≡ true
      whichever true = refl
      whichever false = refl

  pub ran : length bytes % 2 ≡ 0 → length bytes ≤ 65536 → {f : List ℕ} → f ≡ words_in bytes → line ≡ ran_line (outcome f) → line ≡ plot_line bytes
  unfolding plot_line input_doors first_of run_door
  ran even p ef e = rw (eq-eqb _ _ even, le-ltb _ _ p) (rw ef at e ∙ sym (line_of_the_run (words_in bytes)))
