use mathlib.Core.Path.{◌≡◌}
use Rattle.definition.specs.File.{segments, keep_below}
use Rattle.file.proofs.segments_keep.Given as goal

abbrev pub invariant-loop-segment : goal.invariant-loop-segment
invariant-loop-segment l = keep_below l.words (segments l.words) ≡ keep_below l.words l.segment
