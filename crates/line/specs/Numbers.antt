-- The numbers of a line, as whole numbers in their order.
use Rattle.std.specs.Prelude.{List, [], ◌∷◌, ◌++◌, ℤ, pos}
use Rattle.line.specs.declared.Line.{Line}

-- answer, steps, words, stores and counter, which are not below zero
abbrev pub counts : Line → List ℤ
counts l = pos l.answer ∷ pos l.steps ∷ pos l.words ∷ pos l.stores ∷ pos l.counter ∷ []

-- and X and Y
abbrev pub numbers : Line → List ℤ
numbers l = counts l ++ (l.x.0 ∷ l.y.0 ∷ [])
