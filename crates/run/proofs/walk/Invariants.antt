use Prim.Native.Nat.{◌-◌}
use mathlib.Core.Bool.{true}
use mathlib.Core.Path.{◌≡◌}
use lib.ListN.{length}
use Rattle.definition.specs.Machine.{ranged}
use Rattle.definition.specs.Run.{begun, run}
use Rattle.definition.specs.Calls.{lending, given}
use Rattle.outcome.specs.Outcome.{no_set}
use Rattle.run.specs.Walked.{state, Within}
use Rattle.cells.specs.Lent.{lent}
use Rattle.run.proofs.RunLaws.{woken, ahead}
use Rattle.run.proofs.walk.Given as goal

abbrev pub invariant-loop-counts : goal.invariant-loop-counts
invariant-loop-counts l =
    (ranged (woken l.here) ≡ true)
    × Within l.budget l.counts
    × (l.here.status ≡ no_set → length (lent l.set) ≡ 0)
    × (run (given (lending l.file (lent l.set))) (l.budget - l.counts.steps) (state (woken l.here) l.image l.counts) ≡ run (given (lending l.file (lent l.set))) l.budget (begun l.initial.here l.initial.image))

abbrev pub decreases-loop-counts : goal.decreases-loop-counts
decreases-loop-counts l = ahead (l.budget - l.counts.steps) l.here.status
