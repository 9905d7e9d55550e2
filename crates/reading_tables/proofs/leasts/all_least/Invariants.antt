use Rattle.reading_tables.proofs.Vocabulary.{◌≡◌, drop, ◌++◌, map}
use Rattle.reading_tables.specs.inner.Tables.{readings_of}
use Rattle.reading_tables.specs.inner.Bounds.{bounded_by}
use Rattle.reading_tables.proofs.leasts.all_least.Given as goal

abbrev pub invariant-loop-bound : goal.invariant-loop-bound
invariant-loop-bound l =
    map (bounded_by (readings_of l.readings)) l.bounds ≡ l.all.items ++ map (bounded_by (readings_of l.readings)) (drop l.bound-index l.bounds)
