use mathlib.Core.Path.{◌∙◌}
use mir.Syntax.{w32}
use mir.Val.{SFits}
use Rattle.cells.proofs.CellLaws.{left_of, not_left_of}
use borrow.Author.Rules.{rules}
use Rattle.cells.proofs.is_aside.Goals as goal

pub returns-then-x-lt-LEFTMOST : goal.returns-then-x-lt-LEFTMOST
returns-then-x-lt-LEFTMOST c =
    let fits-x : SFits w32 c.args.x.0 = search rules in
    c.if-x-lt-LEFTMOST.true ∙ left_of _ fits-x c.if-x-lt-LEFTMOST.true

pub returns-else-x-lt-LEFTMOST : goal.returns-else-x-lt-LEFTMOST
returns-else-x-lt-LEFTMOST c =
    let fits-x : SFits w32 c.args.x.0 = search rules in
    not_left_of _ fits-x c.if-x-lt-LEFTMOST.false
