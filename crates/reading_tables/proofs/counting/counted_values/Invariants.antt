use Rattle.reading_tables.proofs.Vocabulary.{◌≡◌, drop, filter, slice_index, Some, ◌∷◌, []}
use Rattle.possible_reads.specs.Possible.{added_up, store_part}
use Rattle.reading_tables.specs.Told.{facts_of}
use Rattle.tso_terms.specs.ProgramOrder.{writes_to}
use Rattle.reading_tables.specs.inner.Told.{known_of}
use Rattle.reading_tables.specs.inner.Tables.{readings_of}
use Rattle.reading_tables.proofs.counting.counted_values.Given as goal

abbrev pub invariant-loop-w : goal.invariant-loop-w
invariant-loop-w l =
    added_up l.told.test.now (facts_of l.told.facts.now) (readings_of l.told.readings.now) (store_part l.read)
    (filter (writes_to l.read.loc.0) l.w-items) (Some (slice_index l.told.test.now.words l.read.loc.0 ∷ []))
    ≡ added_up l.told.test.now (facts_of l.told.facts.now) (readings_of l.told.readings.now) (store_part l.read)
    (filter (writes_to l.read.loc.0) (drop l.w-index l.w-items)) (known_of l.words)
