use Rattle.reading_tables.proofs.Vocabulary.{◌≡◌, drop, list_any}
use Rattle.reading_tables.specs.Told.{facts_of}
use Rattle.reading_tables.specs.inner.Orders.{puts_before_some}
use Rattle.reading_tables.proofs.orders.is_told_before_some.Given as goal

abbrev pub invariant-loop-fact : goal.invariant-loop-fact
invariant-loop-fact l =
    list_any (puts_before_some l.events l.w) (facts_of l.facts) ≡ list_any (puts_before_some l.events l.w) (facts_of (drop l.fact-index l.facts))
