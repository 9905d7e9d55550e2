-- A choice made on the hardware of a machine: what it needs of them, what it makes of them, and what it leaves as it was.
-- (This project's profile; what a choice does is the machine's on either bus.)
use Rattle.std.specs.Prelude.{◌≡◌}
use Rattle.machine_core.specs.Vocabulary.{BusEffect, Litmus}
use Rattle.tso_terms.specs.declared.choice.Choice.{Choice}
use Rattle.tso_laws.specs.Holders.{HolderFits}
use Rattle.machine_core.specs.declared.hardware.Hardware.{Hardware}
use Rattle.machine_core.specs.Keeping.{HardwareFitsTest, IsHeldForAccess, state_in}
use Rattle.multiprocessor.specs.Effects.{ChoiceAnswer, HasUsed}
use Rattle.machine_core.specs.Effects.{HasEffect}
use Rattle.machine_core.specs.Split.{use_by}
use Rattle.tso_terms.specs.declared.choice.Bus as kind

-- the hardware is of this test, and the caches' bus is held for the access that its holder goes on with
pub record AreOfTest {P : Type 0} (t : Litmus) (m : Hardware P) : Type 0 where
  pub fits : HardwareFitsTest t m
  pub held : IsHeldForAccess t m

-- the same, and what holds the machine's bus is something that may hold one of this kind
pub record AreConsistent {P : Type 0} (on : kind.Bus) (t : Litmus) (m : Hardware P) : Type 0 where
  pub fits : HardwareFitsTest t m
  pub held : IsHeldForAccess t m
  pub holder : HolderFits on t m.config.depth (state_in m).flat (state_in m).holder

-- a choice had this effect, and used the caches as a choice with this effect does
pub record HasMade {P : Type 0} (t : Litmus) (old new : Hardware P) (choice : Choice) (f : BusEffect) (r : ChoiceAnswer) : Type 0 where
  pub ok : HasEffect old new choice f r.0
  pub caches : HasUsed (use_by t old choice f) new.bus r.1

-- the choice had the effect that it has on the hardware as it was
abbrev pub Makes : {P : Type 0} → (Litmus → Hardware P → Choice → BusEffect)
    → Litmus → Hardware P → Hardware P → Choice → ChoiceAnswer → Type 0
Makes does t old new choice = HasMade t old new choice (does t old choice)

-- no choice was made: the state, the commits and the caches are as they were
pub record IsUndone {P : Type 0} (old new : Hardware P) : Type 0 where
  pub state : state_in new ≡ state_in old
  pub commits : new.commits.entries ≡ old.commits.entries
  pub bus : new.bus ≡ old.bus

-- a choice changes neither how the machine is built nor what is counted
pub record KeepsHardware {P : Type 0} (old new : Hardware P) : Type 0 where
  pub config : new.config ≡ old.config
  pub counts : new.counts.items ≡ old.counts.items
