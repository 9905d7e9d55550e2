use Rattle.scheduler.proofs.Vocabulary.{◌+◌, ◌<◌, get_or, arith, refl, ◌∙◌, Entry, R}
use Rattle.scheduler.proofs.Counted.{sum-fits, count-fits, onward-load, onward-store, onward-other, entry-fits, greatest, none-passed, all-passed}
use Rattle.scheduler.proofs.depth.needed.Goals.{in-R, in-W, in-F}
use Rattle.scheduler.proofs.depth.needed.Goals as goal

-- what a place out of range would read
abbrev none : Entry
none = record { core = record { 0 = 0 }; place = 0; kind = R; loc = record { 0 = 0 }; value = 0 }

pub sum_of-requires : goal.sum_of-requires
sum_of-requires c =
    let at = entry-fits c.args.cores c.args.order.now c.loop-passed.passed none c.requires.cores c.requires.places c.loop-passed-test.true in
    let core : c.from-core.result < c.args.cores = omega (arith, at.0) in
    let place : c.from-place.result < 32 = omega (arith, at.1) in
    sum-fits c.args.cores c.loop-passed.stores.items c.args.order.now c.loop-passed.passed c.from-core.result c.from-place.result c.index.result.now _
    c.loop-passed.invariant.counted core (omega arith) c.index.ensures (omega arith)

pub overflow_add-index_mut : goal.overflow_add-index_mut
overflow_add-index_mut c =
    let at = entry-fits c.args.cores c.args.order.now c.loop-passed.passed none c.requires.cores c.requires.places c.loop-passed-test.true in
    let core : c.from-core.result < c.args.cores = omega (arith, at.0) in
    let place : c.from-place.result < 32 = omega (arith, at.1) in
    let fits : get_or c.index_mut.result.now c.from-place.result 0 + 1 < 18446744073709551616 =
    count-fits c.args.cores c.loop-passed.stores.items c.args.order.now c.loop-passed.passed c.from-core.result c.from-place.result c.index_mut.result.now _
    c.loop-passed.invariant.counted core place c.index_mut.ensures.value (omega arith) in
    omega arith

pub loop-passed-preserved : goal.loop-passed-preserved
loop-passed-preserved c =
    let at = entry-fits c.args.cores c.args.order.now c.loop-passed.passed none c.requires.cores c.requires.places c.loop-passed-test.true in
    let law = c.needed_is_the_most_that_is_asked.ensures.first in
    elim c.match-entry.branch [
      | in-R w ↦
          rw (w.stores-is, w.most-is)
          (onward-load law c.args.order.now c.loop-passed.passed none _ c.args.cores c.loop-passed.stores.items c.loop-passed.most w.max-most.result
          w.sum_of.result c.from-core.result c.from-place.result w.index.result.now
          c.loop-passed-test.true refl w.in-R.is at.0 at.1 c.from-core.ensures c.from-place.ensures w.index.ensures
          w.sum_of.ensures (w.max-most.ensures ∙ greatest _ _) c.loop-passed.invariant)
      | in-W w ↦
          rw (w.stores-is, w.most-is)
          (onward-store law c.args.order.now c.loop-passed.passed none _ c.args.cores c.loop-passed.stores.items
          c.loop-passed.most w.max-most-in-W.result
          c.from-core.result c.from-place.result w.index_mut.result.now
          c.loop-passed-test.true refl w.in-W.is at.0 at.1 c.from-core.ensures c.from-place.ensures
          w.index_mut.ensures.value w.max-most-in-W.ensures c.loop-passed.invariant)
      | in-F w ↦
          rw (w.stores-is, w.most-is)
          (onward-other law c.args.order.now c.loop-passed.passed none _ c.args.cores c.loop-passed.stores.items c.loop-passed.most
          c.loop-passed-test.true refl w.in-F.is c.loop-passed.invariant)
    ]

pub index-requires : goal.index-requires
index-requires c =
    let at = entry-fits c.args.cores c.args.order.now c.loop-passed.passed none c.requires.cores c.requires.places c.loop-passed-test.true in
    let rows = c.loop-passed.invariant.counted.cores_are in
    omega (arith, at.0, rows)

pub index_mut-requires : goal.index_mut-requires
index_mut-requires c =
    let at = entry-fits c.args.cores c.args.order.now c.loop-passed.passed none c.requires.cores c.requires.places c.loop-passed-test.true in
    let rows = c.loop-passed.invariant.counted.cores_are in
    omega (arith, at.0, rows)

pub bounds-index_mut-place : goal.bounds-index_mut-place
bounds-index_mut-place c =
    let at = entry-fits c.args.cores c.args.order.now c.loop-passed.passed none c.requires.cores c.requires.places c.loop-passed-test.true in
    omega (arith, at.1)

pub bounds-index_mut-place-in-W : goal.bounds-index_mut-place-in-W
bounds-index_mut-place-in-W c =
    let at = entry-fits c.args.cores c.args.order.now c.loop-passed.passed none c.requires.cores c.requires.places c.loop-passed-test.true in
    omega (arith, at.1)

pub loop-passed-init : goal.loop-passed-init
loop-passed-init c = none-passed c.args.cores c.in_ok-stores.stores.items c.args.order.now c.in_ok-stores.ensures

pub returns : goal.returns
returns c = all-passed c.args.order.now c.loop-passed.passed c.loop-passed.most c.loop-passed-test.false c.loop-passed.invariant.most
