-- Outcomes that the statements name.
use Rattle.std.specs.Prelude.{ℕ}
use Rattle.definition.specs.Image.{Left, left}
use Rattle.definition.specs.Machine.{with_status}
use Rattle.definition.specs.Run.{summed, State}
use Rattle.definition.specs.declared.Counts.{Counts}
use Rattle.definition.specs.declared.Ran.{Ran}
use Rattle.demands.specs.With.{with_counts}

-- what a run leaves whose next instruction, from this state, is refused
abbrev pub refused_after : ℕ → State → Left Ran
refused_after n s = left (record { answer = n; counts = s.counts; machine = with_status s.machine n }) s.image

-- a state with the counts of an earlier run added
abbrev pub plus : Counts → State → State
plus t s = with_counts s (summed t s.counts)
