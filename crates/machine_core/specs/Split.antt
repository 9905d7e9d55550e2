-- A choice made on the hardware of a machine with a split bus. (This project's profile; what a choice does is the split
-- machine's.)
use Rattle.machine_core.specs.Vocabulary.{access_of, BusEffect, completes, Litmus}
use Rattle.tso_terms.specs.declared.choice.Choice.{Choice}
use Rattle.machine_core.specs.declared.hardware.Hardware.{Hardware}
use Rattle.multiprocessor.specs.Caches.{Used, caches_of, use_with}
use Rattle.machine_core.specs.Keeping.{state_in}

-- how a choice with this effect uses the caches
abbrev pub use_by : {P : Type 0} → Litmus → Hardware P → Choice → BusEffect → Used
use_by t m choice f = use_with t m.config.depth (state_in m) choice f (caches_of m.bus)

-- what the holder's next choice does: it completes what it asked for; a locked instruction with this load part writes
abbrev pub completes_in : {P : Type 0} → Litmus → Hardware P → Choice → BusEffect
completes_in t m choice =
    completes t m.config.depth (state_in m).flat choice (access_of t m.config.depth (state_in m).flat choice)
