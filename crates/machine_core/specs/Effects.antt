-- A choice made on the hardware of a machine: its outcome, and its effect on the state and the commits. (This project's
-- profile; what a choice does is the machine's on either bus.)
use Rattle.std.specs.Prelude.{◌≡◌, ◌++◌}
use Rattle.machine_core.specs.Vocabulary.{applied, BusEffect, chosen}
use Rattle.basic_laws.specs.Types.{Choice, Outcome}
use Rattle.machine_core.specs.declared.hardware.Hardware.{Hardware}
use Rattle.machine_core.specs.Keeping.{state_in}

-- a choice had this effect, with this outcome
pub record HasEffect {P : Type 0} (old new : Hardware P) (choice : Choice) (f : BusEffect) (o : Outcome) : Type 0 where
  pub outcome : o ≡ f.effect.outcome
  pub flat : (state_in new).flat ≡ applied (state_in old).flat (chosen choice) f.effect
  pub holder : (state_in new).holder ≡ f.holder
  pub commits : new.commits.entries ≡ old.commits.entries ++ f.effect.commits
