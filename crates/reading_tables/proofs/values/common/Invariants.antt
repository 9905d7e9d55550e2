use Rattle.reading_tables.proofs.Vocabulary.{◌≡◌, ◌++◌, drop, filter}
use Rattle.possible_reads.specs.Possible.{is_among}
use Rattle.reading_tables.proofs.values.common.Given as goal

abbrev pub invariant-loop-u : goal.invariant-loop-u
invariant-loop-u l = filter (is_among l.vs) l.us ≡ l.all.items ++ filter (is_among l.vs) (drop l.u-index l.us)
