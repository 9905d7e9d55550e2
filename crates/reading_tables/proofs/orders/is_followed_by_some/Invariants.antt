use Rattle.reading_tables.proofs.Vocabulary.{◌≡◌, drop, list_any}
use Rattle.reading_tables.specs.inner.Orders.{is_followed_by}
use Rattle.reading_tables.proofs.orders.is_followed_by_some.Given as goal

abbrev pub invariant-loop-v : goal.invariant-loop-v
invariant-loop-v l = list_any (is_followed_by l.w) l.events ≡ list_any (is_followed_by l.w) (drop l.v-index l.events)
