use Rattle.scheduler.proofs.Vocabulary.{◌≡◌, ◌≤◌, arith, needed, well-formed}
use Rattle.scheduler.proofs.Fitting.{core-at, place-at}
use Rattle.scheduler.proofs.reaching.witness.Goals as goal

pub needed-requires-clause-cores : goal.needed-requires-clause-cores
needed-requires-clause-cores c = λ k d h.
    rw (c.deref.ensures.value, c.cores.ensures.value)
    (core-at c.whole_orders_have_each_entry_once.ensures.fits c.args.test.now c.args.execution.now.order.items
    c.cores.ensures.test c.requires.execution.whole k d (rw c.deref.ensures.value at h))

pub needed-requires-clause-places : goal.needed-requires-clause-places
needed-requires-clause-places c = λ k d h.
    rw c.deref.ensures.value
    (place-at c.whole_orders_have_each_entry_once.ensures.fits c.args.test.now c.args.execution.now.order.items
    c.cores.ensures.test c.requires.execution.whole k d (rw c.deref.ensures.value at h))

pub choices_along-requires : goal.choices_along-requires
choices_along-requires c = λ k d h.
    rw c.deref-2.ensures.value
    (core-at c.whole_orders_have_each_entry_once.ensures.fits c.args.test.now c.args.execution.now.order.items
    c.cores.ensures.test c.requires.execution.whole k d (rw c.deref-2.ensures.value at h))

pub returns-clause-reaches : goal.returns-clause-reaches
returns-clause-reaches c =
    let n : c.in_ok-needed.needed ≡ needed c.deref.result.now = c.in_ok-needed.ensures in
    let within : needed c.args.execution.now.order.items ≤ c.args.depth = rw (← c.deref.ensures.value) (omega (arith, n)) in
    rw (c.in_ok-choices_along.ensures, c.deref-2.ensures.value)
    (c.every_execution_is_reached.ensures c.args.test.now c.args.depth c.args.execution.now.order.items
    (well-formed c.args.test.now c.cores.ensures.test) c.requires.execution within)
