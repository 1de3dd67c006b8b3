use Rattle.std.proofs.Common.{◌≡◌, map}
use Rattle.std.proofs.Math.Seq.{paste}
use Rattle.line.proofs.WordsLaws.{word}
use Rattle.line.proofs.words_of.Given as goal

-- the words of the first i pairs stand at the start of the list as it was
abbrev pub invariant-loop-i : goal.invariant-loop-i
invariant-loop-i l = l.words ≡ paste l.initial.words 0 (map word l.pairs) l.i
