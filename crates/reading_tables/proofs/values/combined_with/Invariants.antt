use Rattle.reading_tables.proofs.Vocabulary.{◌≡◌, ◌++◌, drop, map}
use Rattle.tso_terms.specs.Thread.{combined}
use Rattle.reading_tables.proofs.values.combined_with.Given as goal

abbrev pub invariant-loop-v : goal.invariant-loop-v
invariant-loop-v l = map (combined l.operator l.number) l.values ≡ l.all.items ++ map (combined l.operator l.number) (drop l.v-index l.values)
