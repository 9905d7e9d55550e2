use Rattle.order_breaches.proofs.Vocabulary.{Some, ◌∙◌, arith, length-set}
use Rattle.std.proofs.lemmas.Grind.{common_steps}
use Rattle.order_breaches.proofs.Coming.{slot-bound, index-step, index-only}
use Rattle.order_breaches.proofs.index.index_of.Goals as goal

pub index_mut-requires : goal.index_mut-requires
index_mut-requires c =
    let n =
    slot-bound c.args.list.now c.args.cores c.requires.within.0 c.requires.ascends c.requires.within.1 c.loop-i.i _
    c.slot.result _ c.loop-i-test.true c.slot.ensures c.loop-i.invariant.size in
    grind (arith, common_steps, n)

pub loop-i-preserved : goal.loop-i-preserved
loop-i-preserved c =
    let more =
    index-step c.args.list.now c.args.cores c.requires.within.0 c.requires.ascends c.requires.within.1
    c.loop-i.slots.items c.loop-i.i _ c.slot.result c.loop-i-test.true c.slot.ensures c.loop-i.invariant.size
    c.loop-i.invariant.has c.loop-i.invariant.only in
    record { has = more.0; only = more.1; size = length-set c.loop-i.slots.items c.slot.result (Some c.loop-i.i) ∙ c.loop-i.invariant.size }

pub returns : goal.returns
returns c = index-only c.args.list.now c.loop-i.slots.items c.loop-i.i c.loop-i-test.false c.loop-i.auto.i-end c.loop-i.invariant.has c.loop-i.invariant.only
