use Rattle.reading_tables.proofs.Vocabulary.{◌≡◌, List, drop, ◌++◌, map}
use Rattle.possible_reads.specs.Possible.{Reading}
use Rattle.reading_tables.specs.inner.Bounds.{bounded_by, each_least}
use Rattle.reading_tables.proofs.amounts.make_bounds.Given as goal

abbrev pub invariant-loop-x : goal.invariant-loop-x
invariant-loop-x l =
    (table : List Reading) → each_least l.test table l.x-items
    ≡ map (bounded_by table) l.bounds.items ++ each_least l.test table (drop l.x-index l.x-items)
