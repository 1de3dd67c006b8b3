use mathlib.Core.Path.{sym, ap, ◌∙◌}
use Rattle.std.proofs.lemmas.Result.{err_from_is_err_and}
use Rattle.definition.specs.Image.{square, digit_at}
use Rattle.units.proofs.AnswerLaws.{index_below}
use Rattle.still.proofs.StillLaws.{no_image, beside, above, read_in, missing, there}
use Rattle.still.proofs.read_pixel.Goals as goal

pub returns-in_default : goal.returns-in_default
returns-in_default c = no_image _ _ c.in_default.ensures.1

pub returns-in_err-x : goal.returns-in_err-x
returns-in_err-x c =
    let p = err_from_is_err_and c.from_residual.result c.from_residual.ensures.1 in
    let m = missing c.ok_or.ensures.value c.in_err-x.was in
    rw (p.1, p.2, m.1) (beside _ _ c.in-Ok.ensures.1.long c.index_in.ensures m.0)

pub returns-in_err-y : goal.returns-in_err-y
returns-in_err-y c =
    let p = err_from_is_err_and c.from_residual-in_err-y.result c.from_residual-in_err-y.ensures.1 in
    let m = missing c.ok_or-2.ensures.value c.in_err-y.was in
    rw (p.1, p.2, m.1) (above _ _ c.in-Ok.ensures.1.long c.index_in.ensures (there _ c.ok_or.ensures.value c.in_ok-x.was) c.index_in-2.ensures m.0)

pub read-requires : goal.read-requires
read-requires c =
    let hx = index_below 512 _ (sym c.index_in.ensures ∙ there _ c.ok_or.ensures.value c.in_ok-x.was) in
    let hy = index_below 512 _ (sym c.index_in-2.ensures ∙ there _ c.ok_or-2.ensures.value c.in_ok-y.was) in
    (hx, hy)

pub returns : goal.returns
returns c =
    let whole = c.in-Ok.ensures.1 in
    read_in _ _ whole.long c.index_in.ensures (there _ c.ok_or.ensures.value c.in_ok-x.was) c.index_in-2.ensures (there _ c.ok_or-2.ensures.value c.in_ok-y.was)
    (c.read.ensures ∙ ap (λ im. digit_at square im c.in_ok-x.x c.in_ok-y.y) whole.same)
