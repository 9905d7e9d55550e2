use Rattle.reading_tables.proofs.Vocabulary.{◌≡◌, ◌+◌, drop}
use Rattle.reading_tables.specs.inner.Numbers.{others_before}
use Rattle.reading_tables.proofs.numbers.others_before.Given as goal

abbrev pub invariant-loop-number : goal.invariant-loop-number
invariant-loop-number l = others_before (drop l.number l.written) l.core + l.number ≡ others_before l.written l.core
