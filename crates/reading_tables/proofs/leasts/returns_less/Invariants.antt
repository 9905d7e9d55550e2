use Rattle.reading_tables.proofs.Vocabulary.{◌≡◌, drop, list_any}
use Rattle.possible_reads.specs.Possible as spec
use Rattle.reading_tables.specs.Told.{facts_of}
use Rattle.reading_tables.specs.inner.Tables.{readings_of}
use Rattle.reading_tables.proofs.leasts.returns_less.Given as goal

abbrev pub invariant-loop-fact : goal.invariant-loop-fact
invariant-loop-fact l =
    list_any (spec.returns_less l.read (spec.least_from l.told.test.now (readings_of l.told.readings.now) l.read l.source)) (facts_of l.fact-items)
    ≡ list_any (spec.returns_less l.read (spec.least_from l.told.test.now (readings_of l.told.readings.now) l.read l.source))
    (facts_of (drop l.fact-index l.fact-items))
