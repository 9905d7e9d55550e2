use Rattle.found_reasons.proofs.Vocabulary.{◌≡◌, ◌+◌, ◌++◌, ◌∷◌, map, drop, filter, known_of, are_parts}
use Rattle.refutation_laws.specs.inner.Orders as spec
use Rattle.found_reasons.proofs.order.order_along.Given as goal

abbrev pub invariant-loop-x : goal.invariant-loop-x
invariant-loop-x l =
    map (spec.valued l.test (known_of l.answers)) (spec.with_loads l.events l.row)
    ≡ l.order.items ++ map (spec.valued l.test (known_of l.answers)) (spec.with_loads l.events (drop l.x-index l.row))

abbrev pub invariant-loop-r : goal.invariant-loop-r
invariant-loop-r l =
    map (spec.valued l.test (known_of l.answers)) (spec.with_loads l.events l.row)
    ≡ l.order.items ++ map (spec.valued l.test (known_of l.answers)) (filter (λ r. are_parts r l.x) (drop l.r-index l.events)
    ++ (l.x ∷ spec.with_loads l.events (drop (l.x-index + 1) l.row)))
