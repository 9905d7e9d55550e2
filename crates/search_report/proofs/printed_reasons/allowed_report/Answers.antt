use Rattle.search_report.proofs.Vocabulary.{◌∙◌, ap, sym, subst, string_bytes, IfOk-weaker, made, IsExecutionOf, ShowsExecution, allowed_in}
use Rattle.search_report.proofs.ShownReasons.{all-in, tso-of, shows}
use Rattle.search_report.proofs.printed_reasons.allowed_report.Goals as goal

pub readings-requires : goal.readings-requires
readings-requires c =
    let t = c.args.test.now in
    let order = c.as_slice-order.result.now in
    let tso = tso-of c.args.model t order (subst (IsExecutionOf c.args.model t) (sym c.as_slice-order.ensures.value) c.requires) in
    all-in order (made t order) tso.whole.each

pub returns-then-json : goal.returns-then-json
returns-then-json c =
    let t = c.args.test.now in
    let order = c.as_slice-order.result.now in
    let tso = tso-of c.args.model t order (subst (IsExecutionOf c.args.model t) (sym c.as_slice-order.ensures.value) c.requires) in
    let candidate = c.executions_have_candidates.ensures t order tso in
    IfOk-weaker c.allowed_json.result _ _
    (λ text f. subst (λ o. ShowsExecution c.args.json c.args.model t o c.args.choices.now (string_bytes text)) c.as_slice-order.ensures.value
    (shows c.args.json c.args.model t order c.args.choices.now candidate.0 candidate.1
    (c.candidates_of_executions_are_allowed.ensures.same_state t order candidate.0 tso candidate.1)
    c.in_ok-readings.readings.items c.deref-2.result.now c.in_ok-readings.ensures c.deref-2.ensures.value
    c.deref.result.now (c.deref.ensures.value ∙ c.in_ok-names.ensures.list)
    c.in_ok-values.values.items c.deref-4.result.now c.in_ok-values.ensures c.deref-4.ensures.value (string_bytes text)
    (λ d is. f d is ∙ ap (λ j. allowed_in j c.args.model t d c.args.choices.now) (sym c.if-json.true)))) c.allowed_json.ensures

pub returns : goal.returns
returns c =
    let t = c.args.test.now in
    let order = c.as_slice-order.result.now in
    let tso = tso-of c.args.model t order (subst (IsExecutionOf c.args.model t) (sym c.as_slice-order.ensures.value) c.requires) in
    let candidate = c.executions_have_candidates.ensures t order tso in
    IfOk-weaker c.allowed_text.result _ _
    (λ text f. subst (λ o. ShowsExecution c.args.json c.args.model t o c.args.choices.now (string_bytes text)) c.as_slice-order.ensures.value
    (shows c.args.json c.args.model t order c.args.choices.now candidate.0 candidate.1
    (c.candidates_of_executions_are_allowed.ensures.same_state t order candidate.0 tso candidate.1)
    c.in_ok-readings.readings.items c.deref-2.result.now c.in_ok-readings.ensures c.deref-2.ensures.value
    c.deref.result.now (c.deref.ensures.value ∙ c.in_ok-names.ensures.list)
    c.in_ok-values.values.items c.deref-4.result.now c.in_ok-values.ensures c.deref-4.ensures.value (string_bytes text)
    (λ d is. f d is ∙ ap (λ j. allowed_in j c.args.model t d c.args.choices.now) (sym c.if-json.false)))) c.allowed_text.ensures
