use Rattle.reading_tables.proofs.Vocabulary.{◌≡◌, drop}
use Rattle.reading_tables.specs.inner.Plain as plain
use Rattle.reading_tables.proofs.plain.number_written.Given as goal

abbrev pub invariant-loop-x : goal.invariant-loop-x
invariant-loop-x l = plain.number_written l.written l.write ≡ plain.number_written (drop l.x-index l.written) l.write
