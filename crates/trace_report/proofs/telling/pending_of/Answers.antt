use Rattle.trace_report.proofs.Vocabulary.{length, take, sym, ap, ◌∙◌, core_of}
use Rattle.trace_report.proofs.Looking.{next-pending, all-pending, one-pending-fewer}
use Rattle.trace_report.proofs.telling.pending_of.Goals as goal

pub loop-store-preserved : goal.loop-store-preserved
loop-store-preserved g c =
    let m = c.args.machine.now in
    let more = c.in_ok-push.ensures.items in
    more
    ∙ (next-pending m c.args.core.0 c.len.result c.loop-store.stores.items c.in-Some.store
    (c.len.ensures ∙ c.loop-store.stores.ok.0) c.in-Some.ensures c.loop-store.invariant
    ∙ ap (λ d. take (length d) (core_of m.state.flat c.args.core.0).pending) (sym more))

pub returns : goal.returns
returns g c =
    all-pending c.args.machine.now c.args.core.0 c.len.result c.loop-store.stores.items
    (c.len.ensures ∙ c.loop-store.stores.ok.0) c.in_default.ensures c.loop-store.invariant

pub loop-store-smaller : goal.loop-store-smaller
loop-store-smaller g c =
    one-pending-fewer c.args.machine.now c.args.core.0 c.len.result c.loop-store.stores.items c.push.new.self.items c.in-Some.store
    (c.len.ensures ∙ c.loop-store.stores.ok.0) c.in-Some.ensures c.in_ok-push.ensures.items
