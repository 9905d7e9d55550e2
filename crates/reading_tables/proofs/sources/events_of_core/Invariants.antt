use Rattle.reading_tables.proofs.Vocabulary.{◌≡◌, ◌++◌, drop, filter}
use Rattle.reading_tables.specs.inner.Tables.{is_of_core}
use Rattle.reading_tables.proofs.sources.events_of_core.Given as goal

abbrev pub invariant-loop-e : goal.invariant-loop-e
invariant-loop-e l = filter (is_of_core l.core.0) l.events ≡ l.own.items ++ filter (is_of_core l.core.0) (drop l.e-index l.events)
