use Rattle.found_reasons.proofs.Vocabulary.{◌≡◌, ◌&&◌, drop, list_any, known_of, are_parts, Entry}
use Rattle.refutation_laws.specs.inner.Orders.{must_precede}
use Rattle.found_reasons.proofs.sorting.precedes_load.Given as goal

abbrev pub invariant-loop-r : goal.invariant-loop-r
invariant-loop-r l =
    list_any (λ (r : Entry). are_parts r l.y && must_precede l.model (known_of l.answers) l.x r) (drop l.r-index l.events)
    ≡ list_any (λ (r : Entry). are_parts r l.y && must_precede l.model (known_of l.answers) l.x r) l.events
