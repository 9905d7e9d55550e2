use Rattle.reading_tables.proofs.Vocabulary.{◌≡◌, drop, filter, ◌++◌}
use Rattle.possible_reads.specs.Possible.{may_be_left}
use Rattle.reading_tables.specs.Told.{facts_of}
use Rattle.reading_tables.proofs.ends.left.Given as goal

abbrev pub invariant-loop-v : goal.invariant-loop-v
invariant-loop-v l =
    filter (may_be_left (facts_of l.facts) l.loc) l.values ≡ l.kept.items ++ filter (may_be_left (facts_of l.facts) l.loc) (drop l.v-index l.values)
