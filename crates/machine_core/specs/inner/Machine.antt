-- A machine from its hardware. It keeps that choices of its test lead to its state: so what the laws say of runs holds of
-- every machine.
use Rattle.std.specs.Prelude.{Bool}
use Rattle.machine_core.specs.Vocabulary.{Litmus}
use Rattle.tso_laws.specs.BusChoices.{IsPossibleOn}
use Rattle.machine_core.specs.declared.hardware.Hardware.{Hardware}
use Rattle.machine_core.specs.Running.{Running}
use Rattle.machine_core.specs.Keeping.{HardwareFitsTest, IsHeldForAccess, state_in}
use Rattle.multiprocessor.specs.inner.Keeping.{IsTallied}
use Rattle.machine_core.specs.inner.Keeping.{statistics_in}

-- what a contract sees of a machine of this test with this hardware, and whether memory was refused to it
abbrev pub running_of : {P : Type 0} → Litmus → Hardware P → Bool → Running
running_of t m failed = record {
  test = t;
  bus = m.config.bus;
  depth = m.config.depth;
  state = state_in m;
  commits = m.commits.entries;
  statistics = statistics_in m;
  failed = failed;
}

-- its hardware is of the test, choices of the test lead to its state, and it has counted no more than these can
pub record IsMachine {P : Type 0} (t : Litmus) (m : Hardware P) : Type 0 where
  pub fits : HardwareFitsTest t m
  pub held : IsHeldForAccess t m
  pub possible : IsPossibleOn m.config.bus t m.config.depth m.commits.entries (state_in m)
  pub tallied : IsTallied t (state_in m) (statistics_in m)
