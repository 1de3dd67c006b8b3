-- The same but for one part: what a run is lent, and the state of a run.
use Rattle.std.specs.Prelude.{ℕ, List}
use Rattle.definition.specs.Run.{State}
use Rattle.definition.specs.Calls.{Lent}
use Rattle.definition.specs.declared.Machine.{Machine}
use Rattle.definition.specs.declared.Counts.{Counts}

abbrev pub with_file : Lent → List ℕ → Lent
with_file l f = record { file = f; set = l.set }

abbrev pub with_machine : State → Machine → State
with_machine s m = record { machine = m; image = s.image; counts = s.counts }

abbrev pub with_image : State → List ℕ → State
with_image s im = record { machine = s.machine; image = im; counts = s.counts }

abbrev pub with_counts : State → Counts → State
with_counts s c = record { machine = s.machine; image = s.image; counts = c }
