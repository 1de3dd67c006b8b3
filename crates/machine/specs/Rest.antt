-- The rest of a step, once its first word is there and is not refused: the refusals that are left, in their order, or what the instruction does.
use Rattle.std.specs.Prelude.{ℕ, Result, Bool, true, false, List, [], ◌∷◌, ◌≡◌, eqb}
use Rattle.definition.specs.Choice.{pick, Test, first_of, joined, only_if}
use Rattle.definition.specs.File.{word_in, fetch_refusals}
use Rattle.definition.specs.Words.{is_paired, has_second, is_code, second_refusals}
use Rattle.definition.specs.Machine.{in_range, next, with_counter}
use Rattle.definition.specs.Step.{Given, second, instruction, way_of, way_refusals, Step, completes, refuses, step}
use Rattle.definition.specs.declared.Machine.{Machine}
use Rattle.definition.specs.declared.Unfetched.{Unfetched}
use Rattle.definition.specs.declared.Item.{Item}
use Rattle.definition.specs.declared.Item.TheVariants.{ShortVector, LongVector, AbsolutePoint, GraphX, GraphY, RelativePoint, Characters}
use Rattle.definition.specs.declared.Instruction.{Instruction}
use Rattle.definition.specs.declared.Instruction.TheVariants.{Does, Draws}
use Rattle.outcome.specs.Outcome.{completed, put_off}
use Rattle.outcome.specs.declared.Stepped.{Stepped}

-- what the drawing of an item takes for granted: the coordinates that it sets outright are in range; characters are lit, and their codes have a cell
abbrev pub Drawable : Bool → Item → Type 0
Drawable lit (ShortVector dx dy) = Unit {0}
Drawable lit (LongVector dx) = Unit {0}
Drawable lit (AbsolutePoint x) = in_range x ≡ true
Drawable lit (GraphX x) = in_range x ≡ true
Drawable lit (GraphY y) = in_range y ≡ true
Drawable lit (RelativePoint dx dy) = Unit {0}
Drawable lit (Characters first second) = (lit ≡ true) × (is_code first ≡ true) × (is_code second ≡ true)

unfoldable pub rest_refusals : Machine → Instruction → Result ℕ Unfetched → List Test
rest_refusals m i more =
    joined
    (only_if (has_second i) (fetch_refusals more)
    ∷ only_if (is_paired i) (second_refusals (word_in more))
    ∷ way_refusals m (way_of m.increment i (word_in more))
    ∷ [])

unfoldable pub rest : Given → Machine → Instruction → Step
rest g m i =
    let why = first_of (rest_refusals m i (second g m)) in
    pick (eqb why 0) (completes g m i (word_in (second g m))) (refuses m why)

-- what an instruction comes to, or that it is put off: it would draw characters, and the set is still empty
abbrev pub draws_letters : Instruction → Bool
draws_letters (Does o) = false
draws_letters (Draws lit (ShortVector dx dy)) = false
draws_letters (Draws lit (LongVector dx)) = false
draws_letters (Draws lit (AbsolutePoint x)) = false
draws_letters (Draws lit (GraphX x)) = false
draws_letters (Draws lit (GraphY y)) = false
draws_letters (Draws lit (RelativePoint dx dy)) = false
draws_letters (Draws lit (Characters first second)) = true

abbrev pub later : List ℕ → Machine → Instruction → Step → Step
later set m i t = put_off (draws_letters i) set m t

abbrev pub later_step : List ℕ → Given → Machine → Step
later_step set g m = later set m (instruction g m) (step g m)

-- an order of one word, once it is obeyed: the counter goes past it
abbrev pub passed_by : Machine → Stepped
passed_by m = completed (with_counter m (next m.counter)) 1 0
