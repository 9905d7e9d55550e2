-- A choice made on the hardware of a machine: what it needs of them, and what it leaves of a locked instruction.
use Rattle.std.specs.Prelude.{◌≡◌, ◌≢◌, ℕ, [], true, Some}
use Rattle.machine_core.specs.Vocabulary.{acts, BusEffect, BusModel, Free, HeldBetween, HitFits, holder_of, Litmus, Locked, MemoryAccess, start, unheld, Writes}
use Rattle.basic_laws.specs.Types.{Loc, Entry, Choice}
use Rattle.snoop_bus.specs.Held.{holder}
use Rattle.machine_core.specs.declared.hardware.Hardware.{Hardware}
use Rattle.multiprocessor.specs.Caches.{Used, caches_of, hits_by, use_on}
use Rattle.multiprocessor.specs.inner.Caches.{HasLineAlone}
use Rattle.multiprocessor.specs.Statistics.{Statistics, statistics_after}
use Rattle.machine_core.specs.Keeping.{HardwareFitsTest, IsHeldForAccess, state_in}
use Rattle.multiprocessor.specs.inner.Keeping.{IsTallied}
use Rattle.machine_core.specs.inner.Keeping.{statistics_in}
use Rattle.machine_core.specs.inner.Effects.{attempt_in, flat_effect_in}
use Rattle.multiprocessor.specs.inner.Turns.{by_way}
use Rattle.multiprocessor.specs.declared.turn.Way.{Way}

-- the hardware is of this test, and it is at its beginning: nobody holds the bus, and nothing is committed or counted
pub record AreAtStart {P : Type 0} (t : Litmus) (m : Hardware P) : Type 0 where
  pub fits : HardwareFitsTest t m
  pub held : IsHeldForAccess t m
  pub state : state_in m ≡ unheld (start t)
  pub commits : m.commits.entries ≡ []
  pub tallied : IsTallied t (state_in m) (statistics_in m)

-- the caches' answer to a choice is one that caches may give
abbrev pub AnswerFitsIn : {P : Type 0} → Litmus → Hardware P → Choice → Type 0
AnswerFitsIn t m choice = HitFits t m.config.depth (state_in m).flat (attempt_in t m choice) (state_in m).holder

-- between the two parts of a locked instruction no other core has its line
abbrev pub IsAloneIn : {P : Type 0} → Hardware P → Type 0
IsAloneIn m = (e : Entry) → (state_in m).holder ≡ HeldBetween e → HasLineAlone (caches_of m.bus) e

-- between the two parts of a locked instruction this access of another core doesn't hit as a write to its location
abbrev pub LeavesLocked : BusModel → ℕ → MemoryAccess → Type 0
LeavesLocked b core access =
    (e : Entry) (loc : Loc) → holder_of b ≡ Some (holder e.core e.loc Locked) → access ≡ Writes loc
    → hits_by (caches_of b) core access ≡ true → core ≢ e.core.0 → loc.0 ≢ e.loc.0

-- what a choice does whose access is made this way: at once, so that who holds the bus stays so, or as what was asked for,
-- which frees the bus
abbrev pub effect_made_in : {P : Type 0} → Way → Litmus → Hardware P → Choice → BusEffect
effect_made_in way t m choice = acts (flat_effect_in t m choice) (by_way way (state_in m).holder Free)

-- how a choice uses the caches
abbrev pub use_in : {P : Type 0} → Litmus → Hardware P → Choice → Used
use_in t m choice = use_on m.config.bus t m.config.depth (state_in m) choice (caches_of m.bus)

-- the statistics after a choice
abbrev pub statistics_next : {P : Type 0} → Litmus → Hardware P → Choice → Statistics
statistics_next t m choice = statistics_after m.config.bus t m.config.depth (state_in m) choice (statistics_in m)
