use Rattle.reading_tables.proofs.Vocabulary.{◌≡◌, drop, filter, ◌++◌}
use Rattle.possible_reads.specs.Possible.{may_return}
use Rattle.reading_tables.specs.Told.{facts_of}
use Rattle.reading_tables.proofs.rounds.returned.Given as goal

abbrev pub invariant-loop-v : goal.invariant-loop-v
invariant-loop-v l =
    filter (may_return (facts_of l.facts) l.read) l.values ≡ l.kept.items ++ filter (may_return (facts_of l.facts) l.read) (drop l.v-index l.values)
