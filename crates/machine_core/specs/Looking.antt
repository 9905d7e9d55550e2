-- What one who looks at a machine finds there of the action that holds a split bus: its next choice, its location, and what
-- its line is in until the words come. (Primer, chapter 7, transient states.)
use Rattle.std.specs.Prelude.{ℕ, Option, None, Some, option_map}
use Rattle.machine_core.specs.Vocabulary.{access_of, Awaited, Free, HeldBetween, HeldBy, Holder, Litmus, State}
use Rattle.basic_laws.specs.Types.{Loc, Choice, Step}
use Rattle.machine_core.specs.declared.looking.BusHolder.{BusHolder}
use Rattle.multiprocessor.specs.Caches.{at_access}
use Rattle.machine_core.specs.Running.{Running}

-- the action at this location that holds the bus, by its next choice, and what its line is in while words are awaited
abbrev pub bus_holder : Choice → Loc → Option Awaited → BusHolder
bus_holder choice loc awaited = record { choice = choice; loc = loc; transient = option_map (λ a. a.transient) awaited }

abbrev pub bus_holder_as : Litmus → ℕ → State → Option Awaited → Holder → Option BusHolder
bus_holder_as t depth state awaited Free = None
bus_holder_as t depth state awaited (HeldBy choice) =
    at_access None (λ loc write. Some (bus_holder choice loc awaited)) (access_of t depth state choice)
bus_holder_as t depth state awaited (HeldBetween e) = Some (bus_holder (Step e.core) e.loc awaited)

abbrev pub bus_holder_of : Running → Option BusHolder
bus_holder_of m = bus_holder_as m.test m.depth m.state.flat m.statistics.caches.awaited m.state.holder
