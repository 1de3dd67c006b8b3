-- Where a move from the position ends: within the range, or out of it.
use Rattle.std.specs.Prelude.{true, false, ◌≡◌, ◌⊎◌, Option, Some, None}
use Rattle.definition.specs.Machine.{in_range}
use Rattle.definition.specs.Step.{Change, changed, leaves}
use Rattle.definition.specs.Step.Change.{Move}
use Rattle.definition.specs.declared.Units.{Units}
use Rattle.definition.specs.declared.Machine.{Machine}

-- a coordinate u is led to v, within the range
pub record Leads (u : Units) (c : Change) (v : Units) : Type 0 where
  pub stays : leaves u c ≡ false
  pub to : changed u c ≡ v
  pub within : in_range v ≡ true

abbrev pub Ends : Machine → Units → Units → Option (Units × Units) → Type 0
Ends m dx dy (Some end) = Leads m.x (Move dx) end.0 × Leads m.y (Move dy) end.1
Ends m dx dy None = (leaves m.x (Move dx) ≡ true) ⊎ (leaves m.y (Move dy) ≡ true)
