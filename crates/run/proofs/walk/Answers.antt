use mathlib.Core.Path.{sym, ap, ◌∙◌}
use native.Mathlib.Omega.{arith}
use Rattle.definition.specs.Machine.{ranged}
use Rattle.definition.specs.Calls.{lending, given}
use Rattle.run.specs.Walked.{Within}
use Rattle.run.proofs.RunLaws.{in_range_not, woken_in_range, running_in_range, ahead_less, turn, run_whole, spent, stopped}
use Rattle.run.proofs.walk.Goals as goal

pub loop-counts-init : goal.loop-counts-init
loop-counts-init c =
    let m = c.m.inside.machine in
    let h = c.m.invariant in
    (ap ranged (woken_in_range m h) ∙ h, record { steps = omega arith; words = omega arith; stores = omega arith }, λ q. absurd (in_range_not m h q), run_whole _ _ _ _ h)

pub invariant_of-step : goal.invariant_of-step
invariant_of-step c = running_in_range _ c.loop-counts.invariant.0 c.if-here-ne0.false

pub add-counts-requires : goal.add-counts-requires
add-counts-requires c =
    let few : Within 1 c.step-taken.result.counts = (turn _ (given (lending _ _)) _ _ c.loop-counts.invariant.0 c.if-here-ne0.false c.step-taken.ensures).few in
    let w = c.loop-counts.invariant.1 in
    (omega (arith, few, w, c.requires), omega (arith, few, w, c.requires), omega (arith, few, w, c.requires))

pub loop-counts-smaller : goal.loop-counts-smaller
loop-counts-smaller c =
    let t = turn _ (given (lending _ _)) _ _ c.loop-counts.invariant.0 c.if-here-ne0.false c.step-taken.ensures in
    rw c.add-counts.ensures (ahead_less _ _ _ _ _ c.loop-counts-test.true t.few.steps c.if-here-ne0.false t.stops)

pub loop-counts-preserved : goal.loop-counts-preserved
loop-counts-preserved c =
    let l = c.loop-counts in
    let t = turn _ (given (lending _ _)) _ _ l.invariant.0 c.if-here-ne0.false c.step-taken.ensures in
    let few : Within 1 c.step-taken.result.counts = t.few in
    let w = l.invariant.1 in
    let taken = c.loop-counts-test.true in
    rw c.add-counts.ensures (
      t.in_range,
      record { steps = omega (arith, few, w, taken); words = omega (arith, few, w); stores = omega (arith, few, w) },
      t.none,
      sym (t.next _ l.counts taken) ∙ l.invariant.3,
    )

pub returns-after-loop-counts : goal.returns-after-loop-counts
returns-after-loop-counts c =
    let i = c.loop-counts.invariant in rw (← c.m.view_is) (spent _ (given (lending _ _)) _ _ _ _ _ _ i.0 i.1 i.2 i.3 (omega (arith, c.loop-counts-test.false)))

pub returns-then-here-ne0 : goal.returns-then-here-ne0
returns-then-here-ne0 c =
    let i = c.loop-counts.invariant in rw (← c.m.view_is) (stopped _ (given (lending _ _)) _ _ _ _ _ _ i.0 i.1 i.2 i.3 c.if-here-ne0.true)
