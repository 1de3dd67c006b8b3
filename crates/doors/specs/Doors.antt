-- The doors of a run in two parts, as the code asks them: those of the image and the file, and then those of the machine, the budget and the set.
use Rattle.std.specs.Prelude.{ℕ, List, [], ◌∷◌, ◌++◌}
use Rattle.definition.specs.Choice.{Test, first_of, joined}
use Rattle.definition.specs.File.{file_doors}
use Rattle.definition.specs.Machine.{machine_doors}
use Rattle.definition.specs.Calls.{image_doors, budget_doors, set_doors, running_doors}
use Rattle.definition.specs.declared.Machine.{Machine}

unfoldable pub lent_doors : List ℕ → List ℕ → List Test
lent_doors f im = image_doors im ++ file_doors f

abbrev pub lent_door : List ℕ → List ℕ → ℕ
lent_door f im = first_of (lent_doors f im)

unfoldable pub asked_doors : Machine → ℕ → List ℕ → List Test
asked_doors m b set = joined (machine_doors m ∷ budget_doors b ∷ set_doors set ∷ running_doors m ∷ [])

abbrev pub asked_door : Machine → ℕ → List ℕ → ℕ
asked_door m b set = first_of (asked_doors m b set)
