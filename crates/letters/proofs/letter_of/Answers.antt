use Rattle.definition.proofs.StepLaws.{ranges}
use Rattle.letters.proofs.LetterLaws.{corner_near}
use Rattle.letters.proofs.letter_of.Goals as goal

pub draw-requires : goal.draw-requires
draw-requires c = corner_near _ _ _ c.pixel_at-corner.ensures c.requires ((ranges _).0 c.m.invariant).y
