use Rattle.reading_tables.proofs.Vocabulary.{◌≡◌, drop, list_all}
use Rattle.possible_reads.specs.Possible.{same_source}
use Rattle.reading_tables.proofs.tables.are_one.Given as goal

abbrev pub invariant-loop-s : goal.invariant-loop-s
invariant-loop-s l = list_all (same_source l.source) l.sources ≡ list_all (same_source l.source) (drop l.s-index l.sources)
