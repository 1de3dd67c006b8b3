use Rattle.std.proofs.Common.{ℕ, ◌+◌, ◌-◌, List, ◌++◌, take, ap, ◌∙◌, arith}
use Rattle.std.proofs.lemmas.Slice.{take-put_mid}
use Rattle.screen.proofs.PictureLaws.{one_row, no_row}
use Rattle.screen.proofs.put_rows.Goals as goal

pub loop-y-preserved : goal.loop-y-preserved
loop-y-preserved c =
    let a = c.args in
    let now = c.loop-y in
    let at = c.place_of-at.result in
    let digits = c.put_row.new.digits in
    let put = take-put_mid at (at + 512 - at) now.picture digits (at + 512) (omega arith) (omega arith) ∙ ap (λ (l : List ℕ). take at now.picture ++ l) c.put_row.ensures in
    one_row a.picture.now a.image.now now.picture _ now.y (omega arith) (omega arith) c.place_of-at.ensures put now.invariant

pub returns : goal.returns
returns c =
    let a = c.args in
    no_row a.picture.now a.image.now c.loop-y.picture c.loop-y.y (omega arith) (omega arith) c.loop-y.invariant
