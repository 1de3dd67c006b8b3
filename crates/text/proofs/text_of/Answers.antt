use Rattle.std.proofs.Common.{◌≡◌, length, arith, ap, ◌∙◌}
use Rattle.std.proofs.Math.Seq.{take_at}
use Rattle.definition.specs.Plot.{text, plot_text}
use Rattle.text.proofs.text_of.Goals as goal

pub returns-clause-text_after : goal.returns-clause-text_after
unfolding plot_text
returns-clause-text_after c =
    let after = c.copy_from_slice.new.self in
    let n : length after ≡ c.len-2.result = omega arith in
    take_at after _ _ n ∙ c.copy_from_slice.ensures.after ∙ c.as_bytes.ensures.value ∙ c.deref.ensures.0 ∙ c.text_of_line-line.ensures ∙ ap text c.line_of.ensures
