use Rattle.reading_tables.proofs.Vocabulary.{◌≡◌, drop, filter, ◌++◌, map}
use Rattle.possible_reads.specs.Possible.{reading_after}
use Rattle.reading_tables.specs.Told.{facts_of}
use Rattle.reading_tables.specs.inner.Tables.{readings_of}
use Rattle.tso_terms.specs.ProgramOrder.{is_read}
use Rattle.reading_tables.proofs.rounds.next_readings.Given as goal

abbrev pub invariant-loop-e : goal.invariant-loop-e
invariant-loop-e l =
    map (reading_after l.told.test.now (facts_of l.told.facts.now) (readings_of l.told.readings.now)) (filter is_read l.e-items)
    ≡ readings_of l.readings.items
    ++ map (reading_after l.told.test.now (facts_of l.told.facts.now) (readings_of l.told.readings.now))
    (filter is_read (drop l.e-index l.e-items))
