use borrow.Author.Rules.{rules}
use mir.Syntax.{w32}
use mir.Val.{SFits}
use mathlib.Core.Path.{◌∙◌, ap}
use Rattle.definition.specs.Machine.{in_range}
use Rattle.units.proofs.UnitLaws.{sum_is}
use Rattle.units.proofs.may_move.Goals as goal

pub returns : goal.returns
returns c =
    let fu : SFits w32 c.args.u.0 = search rules in
    let fb : SFits w32 c.args.by.0 = search rules in
    c.within.ensures ∙ ap in_range (sum_is _ _ fu fb c.from.ensures c.from-2.ensures)
