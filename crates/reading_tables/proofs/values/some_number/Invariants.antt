use Rattle.reading_tables.proofs.Vocabulary.{◌≡◌, drop, list_any}
use Rattle.possible_reads.specs.Possible.{same_number}
use Rattle.reading_tables.proofs.values.some_number.Given as goal

abbrev pub invariant-loop-v : goal.invariant-loop-v
invariant-loop-v l = list_any (same_number l.truth l.value) l.values ≡ list_any (same_number l.truth l.value) (drop l.v-index l.values)
