-- What 16 asks of a machine in numbers, as plain conditions.
use Rattle.std.specs.Prelude.{◌≤◌}
use Rattle.demands.specs.Conditions.{Fits}
use Rattle.numbers.specs.Numbers.{machine_of}
use Rattle.numbers.specs.declared.HostMachine.{HostMachine}

-- every field in its range, and each flag 0 or 1
pub record HostFits (m : HostMachine) : Type 0 where
  pub fields : Fits (machine_of m)
  pub write : m.write ≤ 1
  pub latch : m.latch ≤ 1
