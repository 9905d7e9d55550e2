-- What the hardware of a machine has counted.
use Rattle.machine_core.specs.declared.hardware.Hardware.{Hardware}
use Rattle.multiprocessor.specs.Caches.{caches_of}
use Rattle.multiprocessor.specs.Statistics.{Statistics}

-- the statistics so far
abbrev pub statistics_in : {P : Type 0} → Hardware P → Statistics
statistics_in m = record { caches = caches_of m.bus; counts = m.counts.items }
