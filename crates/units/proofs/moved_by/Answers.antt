use borrow.Author.Rules.{rules}
use mir.Syntax.{w32}
use mir.Val.{SFits}
use Rattle.units.proofs.UnitLaws.{add_fits, add_is}
use Rattle.units.proofs.moved_by.Goals as goal

pub overflow_add-result : goal.overflow_add-result
overflow_add-result c =
    let fu : SFits w32 c.args.u.0 = search rules in
    let fb : SFits w32 c.args.by.0 = search rules in
    add_fits _ _ fu fb c.requires

pub returns : goal.returns
returns c =
    let fu : SFits w32 c.args.u.0 = search rules in
    let fb : SFits w32 c.args.by.0 = search rules in
    add_is _ _ fu fb c.requires
