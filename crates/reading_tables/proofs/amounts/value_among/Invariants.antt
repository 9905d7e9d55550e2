use Rattle.reading_tables.proofs.Vocabulary.{◌≡◌, List, drop, map}
use Rattle.possible_reads.specs.Expressions.{Expression, expression_among}
use Rattle.reading_tables.specs.inner.Told.{written_of}
use Rattle.reading_tables.proofs.amounts.value_among.Given as goal

abbrev pub invariant-loop-x : goal.invariant-loop-x
invariant-loop-x l =
    (made : List Expression)
    → expression_among (map (written_of made) l.written) l.write
    ≡ expression_among (map (written_of made) (drop l.x-index l.written)) l.write
