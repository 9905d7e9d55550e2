use Rattle.reading_tables.proofs.Vocabulary.{◌≡◌, drop, map}
use Rattle.possible_reads.specs.Possible as spec
use Rattle.reading_tables.specs.inner.Tables.{readings_of}
use Rattle.reading_tables.proofs.leasts.least_from_any.Given as goal

abbrev pub invariant-loop-source : goal.invariant-loop-source
invariant-loop-source l =
    spec.smallest (map (spec.least_from l.told.test.now (readings_of l.told.readings.now) l.read) l.sources)
    ≡ spec.smallest_with l.least (map (spec.least_from l.told.test.now (readings_of l.told.readings.now) l.read) (drop l.source-index l.rest))
