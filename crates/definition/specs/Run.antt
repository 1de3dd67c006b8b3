-- A run: one step after another, while the machine runs and there is budget left.
use Rattle.std.specs.Prelude.{ℕ, zero, suc, ◌+◌, List, length, eqb}
use Rattle.definition.specs.Choice.{pick}
use Rattle.definition.specs.Image.{stores}
use Rattle.definition.specs.Machine.{shape_of, pen_of}
use Rattle.definition.specs.Step.{Given, Step, step}
use Rattle.definition.specs.declared.Machine.{Machine}
use Rattle.definition.specs.declared.Counts.{Counts}

-- counts, and how those of two runs in a row join
abbrev pub nothing : Counts
nothing = record { steps = 0; words = 0; stores = 0 }

abbrev pub summed : Counts → Counts → Counts
summed a b = record { steps = a.steps + b.steps; words = a.words + b.words; stores = a.stores + b.stores }

-- a store counts whether or not it changes its digit
abbrev pub counted : Step → Counts
counted t = record { steps = t.steps; words = t.words; stores = length t.pixels }

-- a machine, its image, and what was counted so far
pub record State : Type 0 where
  pub machine : Machine
  pub image : List ℕ
  pub counts : Counts

abbrev pub begun : Machine → List ℕ → State
begun m im = record { machine = m; image = im; counts = nothing }

-- a step's pixels are stored with the machine's pen as it was before the step
abbrev pub after : State → Step → State
after s t =
    record {
      machine = t.machine;
      image = stores (shape_of s.machine) (pen_of s.machine) s.image t.pixels;
      counts = summed s.counts (counted t);
    }

unfoldable pub run : Given → ℕ → State → State
run g zero s = s
run g (suc budget) s =
    let rest = run g budget (after s (step g s.machine)) in
    pick (eqb s.machine.status 0) rest s
