-- What the hardware of a machine keeps from choice to choice: all cores are on one bus, buffers hold stores to the test's
-- locations, and the caches' bus is held for just the access that its holder goes on with. (This project's profile.)
use Rattle.std.specs.Prelude.{ℕ, ◌≡◌, length, All, Option, None, Some, option_map}
use Rattle.machine_core.specs.Vocabulary.{access_of, BusState, cores_of, Free, HeldBetween, HeldBy, Holder, holder_of, Litmus, Locked, State, words_of}
use Rattle.machine_core.specs.declared.hardware.Hardware.{Hardware}
use Rattle.multiprocessor.specs.declared.accesses.Next.{Next}
use Rattle.multiprocessor.specs.declared.accesses.Next.TheVariants.{Complete, Write}
use Rattle.multiprocessor.specs.Cores.{state_of_cores}
use Rattle.multiprocessor.specs.Keeping.{IsCore, core_in, held_for}
use Rattle.snoop_bus.specs.Held as bus
use Rattle.snoop_bus.specs.declared.holding.BusAction as bus_action

-- the hardware of a machine of this test: its cores, all on one bus, and a word for each location
pub record HardwareFitsTest {P : Type 0} (t : Litmus) (m : Hardware P) : Type 0 where
  pub cores : length m.processors.items ≡ length t.programs
  pub on_bus : cores_of m.bus ≡ length t.programs
  pub words : length (words_of m.bus) ≡ length t.locations
  pub each : All (IsCore m.config.depth (length (words_of m.bus))) m.processors.items

-- what the action that holds the caches' bus goes on with, if one does
abbrev pub next_in : {P : Type 0} → Hardware P → Option Next
next_in m = option_map (λ h. m.next) (holder_of m.bus)

-- who holds the bus, by what the holder goes on with
abbrev pub holder_by : Option Next → Holder
holder_by None = Free
holder_by (Some (Complete choice)) = HeldBy choice
holder_by (Some (Write e)) = HeldBetween e

-- the machine's state: its memory has the words that a program sees
abbrev pub state_in : {P : Type 0} → Hardware P → BusState
state_in m = record { flat = state_of_cores m.processors.items (words_of m.bus); holder = holder_by (next_in m) }

-- the action that holds the caches' bus where the machine has this holder
abbrev pub held_as : Litmus → ℕ → State → Holder → Option bus_action.BusAction
held_as t depth state Free = None
held_as t depth state (HeldBy choice) = held_for (core_in choice) (access_of t depth state choice)
held_as t depth state (HeldBetween e) = Some (bus.holder e.core e.loc Locked)

-- the caches' bus is held for the access that its holder goes on with
abbrev pub IsHeldForAccess : {P : Type 0} → Litmus → Hardware P → Type 0
IsHeldForAccess t m = holder_of m.bus ≡ held_as t m.config.depth (state_in m).flat (state_in m).holder
