-- A choice on a machine, and what it leaves where memory is refused: all as it was, and a machine that has failed.
use Rattle.std.specs.Prelude.{◌≡◌, ◌&&◌, Bool, true, not}
use Rattle.machine_core.specs.Vocabulary.{has_ended, HeldBetween}
use Rattle.tso_terms.specs.declared.execution.Entry.{Entry}
use Rattle.multiprocessor.specs.inner.Caches.{HasLineAlone}
use Rattle.machine_core.specs.Running.{Running}

-- between the two parts of a locked instruction no other core has its line
abbrev pub IsAloneBetween : Running → Type 0
IsAloneBetween m = (e : Entry) → m.state.holder ≡ HeldBetween e → HasLineAlone m.statistics.caches e

-- the machine was refused memory: its state, who holds the bus, what was committed and the statistics are as they were
pub record HasFailed (old new : Running) : Type 0 where
  pub test : new.test ≡ old.test
  pub bus : new.bus ≡ old.bus
  pub depth : new.depth ≡ old.depth
  pub state : new.state ≡ old.state
  pub commits : new.commits ≡ old.commits
  pub statistics : new.statistics ≡ old.statistics
  pub failed : new.failed ≡ true

-- whether the test has ended on a machine that was never refused memory
abbrev pub is_ended : Running → Bool
is_ended m = not m.failed && has_ended m.test m.state.flat
