use Rattle.reading_tables.proofs.Vocabulary.{◌≡◌, drop}
use Rattle.possible_reads.specs.Possible as spec
use Rattle.reading_tables.proofs.leasts.smallest.Given as goal

abbrev pub invariant-loop-v : goal.invariant-loop-v
invariant-loop-v l = spec.smallest l.values ≡ spec.smallest_with l.least (drop l.v-index l.rest)
