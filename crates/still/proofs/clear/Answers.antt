use Rattle.still.proofs.StillLaws.{not_cleared, all_cleared}
use Rattle.still.proofs.clear.Goals as goal

pub returns-then-image-ne-BYTES : goal.returns-then-image-ne-BYTES
returns-then-image-ne-BYTES c = not_cleared _ c.if-image-ne-BYTES.true

pub returns : goal.returns
returns c = all_cleared _ c.if-image-ne-BYTES.false c.clear.ensures
