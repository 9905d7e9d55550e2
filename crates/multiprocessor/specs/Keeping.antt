-- What the cores of a machine keep from choice to choice: buffers hold stores to the test's locations, counts stay small,
-- and an access that was asked for holds the caches' bus. (This project's profile.)
use Rattle.std.specs.Prelude.{ℕ, ◌≡◌, ◌≤◌, Option, None, Some}
use Rattle.multiprocessor.specs.Vocabulary.{MemoryAccess}
use Rattle.basic_laws.specs.Types.{Core, Choice, Step, Drain}
use Rattle.multiprocessor.specs.declared.processor.Processor.{Processor}
use Rattle.multiprocessor.specs.declared.counts.Counts.{Counts}
use Rattle.multiprocessor.specs.Cores.{AreKnown}
use Rattle.multiprocessor.specs.Caches.{at_access}
use Rattle.snoop_bus.specs.Held as bus
use Rattle.snoop_bus.specs.declared.holding.BusAction as bus_action

-- a core's buffer has this depth, 0 where there is none, and holds stores to one of so many locations
pub record IsCore (depth locations : ℕ) (p : Processor) : Type 0 where
  pub depth_is : p.stores.depth ≡ depth
  pub known : AreKnown locations p.stores

-- none of these counts is larger
pub record IsAtMost (most : ℕ) (c : Counts) : Type 0 where
  pub hits : c.hits ≤ most
  pub misses : c.misses ≤ most
  pub upgrades : c.upgrades ≤ most
  pub forwards : c.forwards ≤ most
  pub write_backs : c.write_backs ≤ most
  pub flushes : c.flushes ≤ most

-- the core that a choice names
abbrev pub core_in : Choice → Core
core_in (Step core) = core
core_in (Drain core) = core

-- the action that holds the caches' bus once this core has asked for this access
abbrev pub held_for : Core → MemoryAccess → Option bus_action.BusAction
held_for core access = at_access None (λ loc write. Some (bus.holder core loc (bus.stage_for write))) access
