use Rattle.found_reasons.proofs.Vocabulary.{◌≡◌, ◌++◌, not, drop, filter}
use Rattle.refutation_laws.specs.inner.Orders as spec
use Rattle.found_reasons.proofs.order.make_order.Given as goal

abbrev pub invariant-loop-e : goal.invariant-loop-e
invariant-loop-e l =
    filter (λ e. not (spec.is_load_part e)) l.events ≡ l.others.items ++ filter (λ e. not (spec.is_load_part e)) (drop l.e-index l.events)
