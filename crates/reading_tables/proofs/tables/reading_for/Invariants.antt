use Rattle.reading_tables.proofs.Vocabulary.{◌≡◌, drop, Litmus}
use Rattle.possible_reads.specs.Possible.{sources_read, values_read, least_read}
use Rattle.reading_tables.specs.inner.Tables.{readings_of}
use Rattle.reading_tables.proofs.tables.reading_for.Given as goal

abbrev pub invariant-loop-x : goal.invariant-loop-x
invariant-loop-x l = record {
  sources : (t : Litmus) → sources_read t (readings_of l.readings) l.read ≡ sources_read t (readings_of (drop l.x-index l.readings)) l.read;
  values : values_read (readings_of l.readings) l.read ≡ values_read (readings_of (drop l.x-index l.readings)) l.read;
  least : least_read (readings_of l.readings) l.read ≡ least_read (readings_of (drop l.x-index l.readings)) l.read;
}
