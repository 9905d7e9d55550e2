use Rattle.tso_report.specs.inner.Arrays.{IsBegun}
use Rattle.search_report.proofs.Vocabulary.{drop, map}
use Rattle.search_report.proofs.items.array_of.Given as goal

abbrev pub invariant-loop-item : goal.invariant-loop-item
invariant-loop-item g l = IsBegun l.values (map (g.T.Valued.valued l.test) (drop l.item-index l.items)) (map (g.T.Valued.valued l.test) l.items)
