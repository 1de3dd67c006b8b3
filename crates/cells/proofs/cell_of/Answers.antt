use Prim.Native.Nat.{◌+◌, ◌-◌, ◌*◌}
use mathlib.Core.Path.{◌≡◌}
use Rattle.std.proofs.lemmas.Result.{MatchResult-at_ok}
use native.Mathlib.Omega.{arith}
use Rattle.definition.specs.Characters.{cell_of}
use Rattle.cells.proofs.CellLaws.{code_bounds}
use Rattle.cells.proofs.cell_of.Goals as goal

pub overflow_sub-start : goal.overflow_sub-start
overflow_sub-start c = omega (arith, code_bounds _ c.args.code.known)

pub slice_bounds-try_from-end : goal.slice_bounds-try_from-end
slice_bounds-try_from-end c = omega (arith, code_bounds _ c.args.code.known)

pub returns : goal.returns
unfolding cell_of
returns c =
    let start = 8 * (c.from.result - 32) in
    let e : start + 8 - start ≡ 8 = omega arith in
    rw (e, c.from.ensures) at (MatchResult-at_ok _ _ _ c.unwrap.ensures c.try_from.ensures.1).same
