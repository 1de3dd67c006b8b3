-- The set that is lent, as the calls of the definition have it: no bytes where there is none.
use Rattle.std.specs.Prelude.{ℕ, List, [], Option, Some, None}
use denote.Bor.{Bor}

abbrev pub lent : Option (Bor (List ℕ)) → List ℕ
lent None = []
lent (Some set) = set.now
