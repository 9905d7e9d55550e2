use Rattle.trace_report.proofs.Vocabulary.{◌≡◌, ◌∙◌, ◌<◌, ◌≤◌, ◌∷◌, ◌++◌, [], length, take, ap, arith, take_more, take_all}
use Rattle.trace_report.proofs.Vocabulary.{unwrap_or-slice_get, unwrap_or, sym, subst, codes, Data, no_members, object, put, array}
use Rattle.trace_report.proofs.Vocabulary.{items_of, view, IfOk, bus_holder_of, memory_value, cores_json, bus_json}
use Rattle.trace_report.proofs.machine_as_json.machine_value.Goals as goal

pub loop-loc-preserved : goal.loop-loc-preserved
loop-loc-preserved g c =
    let memory = c.args.moment.now.machine.now.state.flat.memory in
    let loc = c.loop-loc.loc in
    let there : loc < length memory = omega arith in
    let word = c.unwrap_or.ensures ∙ (ap (λ o. unwrap_or o 0) c.seen.ensures ∙ unwrap_or-slice_get memory loc 0) in
    c.in_ok-push.ensures.items
    ∙ (ap (λ l. l ++ c.unwrap_or.result ∷ []) c.loop-loc.invariant
    ∙ (ap (λ x. take loc memory ++ x ∷ []) word ∙ sym (take_more memory loc 0 there)))

pub bus_value-requires-clause-seen : goal.bus_value-requires-clause-seen
bus_value-requires-clause-seen g c =
    let memory = c.args.moment.now.machine.now.state.flat.memory in
    let past : length memory ≤ c.loop-loc.loc = omega arith in
    c.deref.ensures.value ∙ (c.loop-loc.invariant ∙ take_all c.loop-loc.loc memory past)

pub memory_value-requires-2 : goal.memory_value-requires-2
memory_value-requires-2 g c =
    let memory = c.args.moment.now.machine.now.state.flat.memory in
    let past : length memory ≤ c.loop-loc.loc = omega arith in
    ap length (c.deref-2.ensures.value ∙ (c.loop-loc.invariant ∙ take_all c.loop-loc.loc memory past)) ∙ c.requires.shown.each

pub returns : goal.returns
returns g c =
    let m = c.args.moment.now.machine.now in
    let own = c.args.moment.now.memory.now in
    let t : c.args.moment.now.test.now ≡ m.test = sym c.requires.shown.test in
    let past : length m.state.flat.memory ≤ c.loop-loc.loc = omega arith in
    let seen : c.deref-2.result.now ≡ m.state.flat.memory =
    c.deref-2.ensures.value ∙ (c.loop-loc.invariant ∙ take_all c.loop-loc.loc m.state.flat.memory past) in
    subst (λ (d : Data). IfOk c.value.result (λ value. view value ≡ d))
    (λ i. object (put (codes "seen") (memory_value (t i) (seen i)) (put (codes "memory") (memory_value (t i) own)
    (put (codes "cores") (array (items_of (cores_json m 0 (length m.test.programs)))) (put (codes "bus") (bus_json m (bus_holder_of m)) no_members)))))
    (c.value.ensures _ (c.member-4.ensures _ _ (c.member-3.ensures _ _
    (c.member-2.ensures _ _ (c.member.ensures _ _ c.new.ensures c.bus_value.ensures) c.cores_value.ensures)
    c.memory_value.ensures)
    c.memory_value-2.ensures))
