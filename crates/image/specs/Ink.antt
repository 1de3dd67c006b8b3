-- An ink as two tables, an entry for each place of a digit in its byte: a store keeps those bits of the byte, and sets these.
use Rattle.std.specs.Prelude.{ℕ, ◌*◌, List, [], ◌∷◌}
use Rattle.definition.specs.declared.Ink.{Ink}

-- a digit that is replaced: all bits but its own two are kept, and the value's are set
unfoldable pub kept : Ink → List ℕ
kept k = 252 ∷ 243 ∷ 207 ∷ 63 ∷ []

unfoldable pub inked : Ink → List ℕ
inked k = k.value ∷ 4 * k.value ∷ 16 * k.value ∷ 64 * k.value ∷ []
