use Rattle.reading_tables.proofs.Vocabulary.{◌≡◌, length}
use Rattle.reading_tables.specs.inner.Numbers.{AreOthersFirst}
use Rattle.reading_tables.proofs.numbers.others_first.Given as goal

abbrev pub invariant-loop-core : goal.invariant-loop-core
invariant-loop-core l = record {
  counts : AreOthersFirst l.written l.counts.items;
  length : length l.counts.items ≡ l.core;
}
