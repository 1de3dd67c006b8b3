-- What a step comes to in code: the machine and the counts that it answers, and the image that it leaves.
use Rattle.std.specs.Prelude.{ℕ, Bool, ◌&&◌, List, length, ◌==◌}
use Rattle.definition.specs.Choice.{pick}
use Rattle.definition.specs.Image.{Left, left, stores}
use Rattle.definition.specs.Machine.{past, with_counter, with_position, shape_of, pen_of}
use Rattle.definition.specs.Step.{Step, refuses}
use Rattle.definition.specs.Run.{counted}
use Rattle.definition.specs.declared.Units.{Units}
use Rattle.definition.specs.declared.Machine.{Machine}
use Rattle.outcome.specs.declared.Stepped.{Stepped}

abbrev pub told : Step → Stepped
told t = record { machine = t.machine; counts = counted t }

-- a step of the machine m, into the image im
unfoldable pub stepped : Machine → List ℕ → Step → Left Stepped
stepped m im t = left (told t) (stores (shape_of m) (pen_of m) im t.pixels)

-- the status of a step that was put off; no machine in range has it
abbrev pub no_set : ℕ
no_set = 254

-- a step that would complete is put off where it draws characters and the set is still empty: nothing but the status changes
unfoldable pub put_off : Bool → List ℕ → Machine → Step → Step
put_off letters set m t = pick (letters && (length set) == 0 && t.steps == 1) (refuses m no_set) t

-- what is answered for a step that completes: it counts as one
abbrev pub completed : Machine → ℕ → ℕ → Stepped
completed m words stores = record { machine = m; counts = record { steps = 1; words = words; stores = stores } }

-- an item's words, and the machine past them, at (x, y)
abbrev pub words_if : Bool → ℕ
words_if second = pick second 2 1

abbrev pub arrived : Machine → Bool → Units → Units → Machine
arrived m second x y = with_position (with_counter m (past (words_if second) m.counter)) x y
