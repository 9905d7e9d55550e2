use Rattle.tso_report.specs.inner.Arrays.{IsBegun}
use Rattle.tso_report.proofs.Vocabulary.{drop, map, count}
use Rattle.tso_report.proofs.members.numbers_value.Given as goal

abbrev pub invariant-loop-number : goal.invariant-loop-number
invariant-loop-number l = IsBegun l.values (map count (drop l.number-index l.numbers)) (map count l.numbers)
