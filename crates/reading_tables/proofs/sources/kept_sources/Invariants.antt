use Rattle.reading_tables.proofs.Vocabulary.{◌≡◌, drop, ◌++◌, filter}
use Rattle.possible_reads.specs.Possible.{can_read_from}
use Rattle.reading_tables.specs.Told.{facts_of}
use Rattle.reading_tables.specs.inner.Tables.{readings_of}
use Rattle.reading_tables.proofs.sources.kept_sources.Given as goal

abbrev pub invariant-loop-s : goal.invariant-loop-s
invariant-loop-s l =
    filter (can_read_from l.told.test.now (facts_of l.told.facts.now) (readings_of l.told.readings.now) l.read) l.sources
    ≡ l.kept.items ++ filter (can_read_from l.told.test.now (facts_of l.told.facts.now) (readings_of l.told.readings.now) l.read) (drop l.s-index l.sources)
