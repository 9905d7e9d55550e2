use Rattle.trace_report.proofs.Vocabulary.{◌∙◌, ap, map, option_map, string, array, items_of, core_of, store_text}
use Rattle.trace_report.proofs.Looking.{pending-of}
use Rattle.trace_report.proofs.Listed.{view-list}
use Rattle.trace_report.proofs.MachinesLooked.{store-at, next-read, all-read, fewer-left}
use Rattle.trace_report.proofs.cores_as_json.buffer_value.Goals as goal

pub loop-store-preserved : goal.loop-store-preserved
loop-store-preserved g c =
    let m = c.args.moment.now.machine.now in
    let t = c.args.moment.now.test.now in
    next-read string (map (store_text t) (core_of m.state.flat c.args.core.0).pending) c.len.result c.loop-store.values.items c.push_made.new.values.items
    (store_text t c.in-Some.store) (c.len.ensures ∙ c.loop-store.values.ok.0)
    (ap (option_map (store_text t)) c.in-Some.ensures ∙ store-at t m c.args.core.0 c.len.result)
    (c.in_ok-push_made.ensures (string (store_text t c.in-Some.store)) c.store_value.ensures) c.loop-store.invariant

pub returns : goal.returns
returns g c =
    let m = c.args.moment.now.machine.now in
    let t = c.args.moment.now.test.now in
    view-list c.loop-store.values ∙ ap (λ l. array (items_of l))
    (all-read string
    (map (store_text t) (core_of m.state.flat c.args.core.0).pending) c.len.result c.loop-store.values.items
    (c.len.ensures ∙ c.loop-store.values.ok.0)
    (ap (option_map (store_text t)) c.in_default.ensures ∙ store-at t m c.args.core.0 c.len.result) c.loop-store.invariant)

pub loop-store-smaller : goal.loop-store-smaller
loop-store-smaller g c =
    let m = c.args.moment.now.machine.now in
    let t = c.args.moment.now.test.now in
    fewer-left (λ e. string (store_text t e)) (core_of m.state.flat c.args.core.0).pending c.len.result
    c.loop-store.values.items c.push_made.new.values.items c.in-Some.store
    (c.len.ensures ∙ c.loop-store.values.ok.0) (c.in-Some.ensures ∙ pending-of m c.args.core.0 c.len.result)
    (c.in_ok-push_made.ensures (string (store_text t c.in-Some.store)) c.store_value.ensures)
