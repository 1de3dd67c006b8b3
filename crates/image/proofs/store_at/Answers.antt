use borrow.Author.Rules.{rules}
use Rattle.image.proofs.InkLaws.{stored_at}
use Rattle.image.proofs.store_at.Goals as goal

pub returns : goal.returns
returns c = stored_at c.args.image.now c.args.at c.args.brush.ink c.requires.1 c.requires.2 (search rules) c.args.brush.fits
