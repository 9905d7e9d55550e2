use Rattle.reading_tables.proofs.Vocabulary.{◌≡◌, ◌≤◌, ◌+◌, drop, length}
use Rattle.reading_tables.specs.inner.Numbers.{number_among}
use Rattle.reading_tables.proofs.numbers.number_among.Given as goal

abbrev pub invariant-loop-number : goal.invariant-loop-number
invariant-loop-number l = record {
  rest : number_among (drop l.number l.written) l.write + l.number ≡ number_among l.written l.write;
  within : l.number ≤ length l.written;
}
