use Rattle.reading_tables.proofs.Vocabulary.{◌≡◌, drop, list_all}
use Rattle.reading_tables.specs.inner.Plain.{writes_number}
use Rattle.reading_tables.proofs.plain.write_numbers.Given as goal

abbrev pub invariant-loop-x : goal.invariant-loop-x
invariant-loop-x l = list_all writes_number l.written ≡ list_all writes_number (drop l.x-index l.written)
