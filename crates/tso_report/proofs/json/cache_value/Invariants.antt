use Rattle.tso_report.specs.inner.Arrays.{IsBegun}
use Rattle.tso_report.proofs.Vocabulary.{drop, map, counts_value}
use Rattle.tso_report.proofs.json.cache_value.Given as goal

abbrev pub invariant-loop-counts : goal.invariant-loop-counts
invariant-loop-counts l = IsBegun l.values (map counts_value (drop l.counts-index l.counts)) (map counts_value l.initial.counts)
