use Rattle.reading_tables.proofs.Vocabulary.{◌≡◌, ◌++◌, drop, map}
use Rattle.tso_terms.specs.Thread.{difference_of}
use Rattle.reading_tables.proofs.values.all_negated.Given as goal

abbrev pub invariant-loop-v : goal.invariant-loop-v
invariant-loop-v l = map (difference_of 0) l.values ≡ l.all.items ++ map (difference_of 0) (drop l.v-index l.values)
