use borrow.Author.Rules.{rules}
use mathlib.Core.Path.{◌∙◌, ap}
use mir.Syntax.{w32}
use mir.Val.{SFits}
use lib.IntN.{ℤ}
use Rattle.definition.specs.Units.{units}
use Rattle.definition.specs.Machine.{in_range}
use Rattle.units.proofs.UnitLaws.{widened}
use Rattle.units.proofs.in_range.Goals as goal

pub returns : goal.returns
returns c =
    let fu : SFits w32 c.args.u.0 = search rules in
    c.within.ensures ∙ ap (λ (z : ℤ). in_range (units z)) (widened c.args.u fu c.from.ensures)
