use Rattle.reading_tables.proofs.Vocabulary.{◌≡◌, drop, list_any}
use Rattle.refutation_laws.specs.Known.{same_event}
use Rattle.reading_tables.proofs.orders.is_one_of.Given as goal

abbrev pub invariant-loop-e : goal.invariant-loop-e
invariant-loop-e l = list_any (same_event l.v) l.events ≡ list_any (same_event l.v) (drop l.e-index l.events)
