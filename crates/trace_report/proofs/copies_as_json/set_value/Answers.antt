use Rattle.trace_report.proofs.Vocabulary.{◌≡◌, ◌∙◌, ap, subst, array, items_of, view, Data, IfOk, state_name, copy_json, cached_lines_in}
use Rattle.trace_report.proofs.Listed.{view-list, copy-made}
use Rattle.trace_report.proofs.MachinesLooked.{copy-at, next-read, all-read, fewer-left}
use Rattle.trace_report.proofs.copies_as_json.set_value.Goals as goal

pub loop-copy-preserved : goal.loop-copy-preserved
loop-copy-preserved g c =
    let m = c.args.moment.now.machine.now in
    let made : IfOk c.value-value.result (λ value. view value ≡ copy_json m c.args.core.0 c.in-Some.copy) =
    subst (λ (d : Data). IfOk c.value-value.result (λ value. view value ≡ d))
    (copy-made c.args.moment.now.test.now c.args.moment.now.config m c.args.core.0 c.words-words.result
    c.locations_in-count.result c.in-Some.copy c.state_name.result.now c.requires.shown
    c.words-words.ensures.value (c.state_name.ensures ∙ ap state_name c.line_state-state.ensures) c.locations_in-count.ensures.value)
    (c.value-value.ensures _ (c.member-in-Some-2.ensures _ _
    (c.member-in-Some.ensures _ _ (c.member.ensures _ _ c.new.ensures c.line_value.ensures) c.word_value.ensures)
    c.numbers_value.ensures)) in
    next-read (copy_json m c.args.core.0) (cached_lines_in m c.args.core.0 c.args.set) c.len.result c.loop-copy.values.items c.push_made.new.values.items
    c.in-Some.copy (c.len.ensures ∙ c.loop-copy.values.ok.0) (c.in-Some.ensures ∙ copy-at m c.args.core.0 c.args.set c.len.result)
    (c.in_ok-push_made.ensures (copy_json m c.args.core.0 c.in-Some.copy) made) c.loop-copy.invariant

pub returns : goal.returns
returns g c =
    let m = c.args.moment.now.machine.now in
    view-list c.loop-copy.values ∙ ap (λ l. array (items_of l))
    (all-read (copy_json m c.args.core.0) (cached_lines_in m c.args.core.0 c.args.set) c.len.result
    c.loop-copy.values.items (c.len.ensures ∙ c.loop-copy.values.ok.0)
    (c.in_default.ensures ∙ copy-at m c.args.core.0 c.args.set c.len.result) c.loop-copy.invariant)

pub loop-copy-smaller : goal.loop-copy-smaller
loop-copy-smaller g c =
    let m = c.args.moment.now.machine.now in
    let made : IfOk c.value-value.result (λ value. view value ≡ copy_json m c.args.core.0 c.in-Some.copy) =
    subst (λ (d : Data). IfOk c.value-value.result (λ value. view value ≡ d))
    (copy-made c.args.moment.now.test.now c.args.moment.now.config m c.args.core.0 c.words-words.result
    c.locations_in-count.result c.in-Some.copy c.state_name.result.now c.requires.shown
    c.words-words.ensures.value (c.state_name.ensures ∙ ap state_name c.line_state-state.ensures) c.locations_in-count.ensures.value)
    (c.value-value.ensures _ (c.member-in-Some-2.ensures _ _
    (c.member-in-Some.ensures _ _ (c.member.ensures _ _ c.new.ensures c.line_value.ensures) c.word_value.ensures)
    c.numbers_value.ensures)) in
    fewer-left (copy_json m c.args.core.0) (cached_lines_in m c.args.core.0 c.args.set) c.len.result
    c.loop-copy.values.items c.push_made.new.values.items c.in-Some.copy
    (c.len.ensures ∙ c.loop-copy.values.ok.0) (c.in-Some.ensures ∙ copy-at m c.args.core.0 c.args.set c.len.result)
    (c.in_ok-push_made.ensures (copy_json m c.args.core.0 c.in-Some.copy) made)
