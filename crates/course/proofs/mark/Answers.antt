use Rattle.std.proofs.Common.{arith}
use Rattle.course.proofs.GoneLaws.{carried_less}
use Rattle.course.proofs.FieldLaws.{visible_is}
use Rattle.course.proofs.MarkLaws.{number_most, start_number, mark_first}
use Rattle.course.specs.Course.{gone, carried, mark}
use Rattle.course.proofs.mark.Goals as goal

pub overflow_add-result : goal.overflow_add-result
overflow_add-result c =
    let n = start_number _ c.args.c.sound c.requires.0 (rw c.if-i-eq0.true at c.requires.2) in let h = c.args.c.sound.half in let f = c.args.c.sound.few in omega (arith, c.wide.ensures)

pub returns-then-i-eq0 : goal.returns-then-i-eq0
returns-then-i-eq0 c =
    rw (c.wide.ensures, c.if-i-eq0.true) (mark_first _ c.args.c.sound c.requires.0 (rw c.if-i-eq0.true at c.requires.2))

pub part-requires : goal.part-requires
part-requires c = let v = visible_is _ _ c.requires.2 in (c.args.c.sound.long.weight, v.0, v.1)

pub part-requires-2 : goal.part-requires-2
unfolding gone
part-requires-2 c = let v = visible_is _ _ c.requires.2 in (c.args.c.sound.short.weight, v.2, v.3)

pub overflow_add-result-2 : goal.overflow_add-result-2
unfolding gone
overflow_add-result-2 c =
    let n = number_most c.args.c.course c.args.i c.args.c.sound c.requires.2 in omega (arith, c.part.ensures, c.part-2.ensures)

pub overflow_add-result-3 : goal.overflow_add-result-3
unfolding gone carried
overflow_add-result-3 c =
    let n = number_most c.args.c.course c.args.i c.args.c.sound c.requires.2 in let l = carried_less c.args.c.course.long.size c.args.c.course.short.size c.args.c.course.half c.args.i c.requires.0 in let f = c.args.c.sound.few in omega (arith, c.wide-2.ensures, c.part.ensures, c.part-2.ensures)

pub returns : goal.returns
unfolding mark gone carried
returns c = rw (c.wide-2.ensures, c.part.ensures, c.part-2.ensures)
