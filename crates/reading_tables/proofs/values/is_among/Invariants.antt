use Rattle.reading_tables.proofs.Vocabulary.{◌≡◌, drop}
use Rattle.possible_reads.specs.Possible.{is_among}
use Rattle.reading_tables.proofs.values.is_among.Given as goal

abbrev pub invariant-loop-v : goal.invariant-loop-v
invariant-loop-v l = is_among l.values l.value ≡ is_among (drop l.v-index l.values) l.value
