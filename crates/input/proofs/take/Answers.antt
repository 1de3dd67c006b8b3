use Rattle.std.proofs.Common.{arith}
use Rattle.input.proofs.Files.{taken_full, taken_whole}
use Rattle.input.proofs.take.Goals as goal

pub returns-then-length-eq-ROOM-clause-taken : goal.returns-then-length-eq-ROOM-clause-taken
returns-then-length-eq-ROOM-clause-taken g c = taken_full _ _ _ 65537 c.read_full-length.ensures.taken (omega arith)

pub returns-in-Ok-eq0-clause-taken : goal.returns-in-Ok-eq0-clause-taken
returns-in-Ok-eq0-clause-taken g c =
    let read = c.in-Ok-eq0.ensures.bytes in
    let zero = c.in-Ok-eq0.field-0-test in
    taken_whole _ _ _ _ _ _ 65537 c.read_full-length.ensures.taken read.0 zero (read.1 zero (omega arith)) (omega arith)
