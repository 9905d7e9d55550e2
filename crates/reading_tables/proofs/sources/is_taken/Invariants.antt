use Rattle.reading_tables.proofs.Vocabulary.{◌≡◌, drop, list_any}
use Rattle.possible_reads.specs.Possible.{takes}
use Rattle.reading_tables.specs.inner.Tables.{readings_of}
use Rattle.reading_tables.proofs.sources.is_taken.Given as goal

abbrev pub invariant-loop-x : goal.invariant-loop-x
invariant-loop-x l =
    list_any (takes l.read l.source) (readings_of l.readings) ≡ list_any (takes l.read l.source) (readings_of (drop l.x-index l.readings))
