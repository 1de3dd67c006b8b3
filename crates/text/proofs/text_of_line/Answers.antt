use Rattle.std.proofs.Common.{arith, refl, rules}
use mir.Syntax.{w32}
use mir.Val.{SFits}
use mathlib.Core.List.{append_assoc}
use Rattle.definition.specs.Plot.{text}
use Rattle.text.proofs.FiguresLaws.{unsigned, signed}
use Rattle.text.proofs.text_of_line.Goals as goal

pub returns : goal.returns
unfolding text
returns c =
    let l = c.args.l in
    let fx : SFits w32 l.x.0 = search rules in
    let fy : SFits w32 l.y.0 = search rules in
    rw (
      c.push-7.ensures.bytes,
      c.push-6.ensures.bytes,
      c.push-5.ensures.bytes,
      c.push-4.ensures.bytes,
      c.push-3.ensures.bytes,
      c.push-2.ensures.bytes,
      c.push.ensures.bytes,
      c.new-text.ensures,
    )
    (simp append_assoc
    (rw (
      unsigned l.answer (omega arith),
      unsigned l.steps (omega arith),
      unsigned l.words (omega arith),
      unsigned l.stores (omega arith),
      unsigned l.counter (omega arith),
      signed l.x.0 fx,
      signed l.y.0 fy,
    )
    refl))
