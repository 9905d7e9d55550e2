use Rattle.search_report.proofs.Vocabulary.{◌∙◌, [], string_bytes, ap, values_of, names_shown, outcomes_in, kept_of, kept_after}
use Rattle.search_report.proofs.Printing.{reached-whole, kept-is-shown, kept-out}
use Rattle.search_report.proofs.printed_outcomes.outcomes_report.Goals as goal

pub outcomes_of-requires-clause-finals : goal.outcomes_of-requires-clause-finals
outcomes_of-requires-clause-finals c =
    reached-whole c.args.test.now c.args.depth c.args.finals.now c.ended_runs_are_executions.ensures c.know_limits.ensures c.requires

pub text_of-requires-clause-shown : goal.text_of-requires-clause-shown
text_of-requires-clause-shown c =
    kept-is-shown c.args.test.now c.in_ok-names.names.items c.deref.result.now c.deref-2.result.now c.args.finals.now
    (kept_of c.in_ok-outcomes.outcomes.entries)
    (reached-whole c.args.test.now c.args.depth c.args.finals.now c.ended_runs_are_executions.ensures c.know_limits.ensures c.requires)
    c.deref.ensures.value c.deref-2.ensures.value c.in_ok-outcomes.ensures

pub is_met_in-requires : goal.is_met_in-requires
is_met_in-requires c =
    kept-is-shown c.args.test.now c.in_ok-names.names.items c.deref.result.now c.deref-3.result.now c.args.finals.now
    (kept_of c.in_ok-outcomes.outcomes.entries)
    (reached-whole c.args.test.now c.args.depth c.args.finals.now c.ended_runs_are_executions.ensures c.know_limits.ensures c.requires)
    c.deref.ensures.value c.deref-3.ensures.value c.in_ok-outcomes.ensures

pub returns : goal.returns
returns c =
    let t = c.args.test.now in
    let kept = kept_of c.in_ok-outcomes.outcomes.entries in
    kept-out t (names_shown c.args.show t) c.in_ok-names.names.items c.args.depth c.args.json c.is_met_in.result c.is_as_claimed.result c.args.finals.now kept
    (string_bytes c.in_ok-text_of.field-0)
    (reached-whole t c.args.depth c.args.finals.now c.ended_runs_are_executions.ensures c.know_limits.ensures c.requires)
    c.in_ok-names.ensures.list
    (c.in_ok-outcomes.ensures ∙ ap (λ names. kept_after names [] c.args.finals.now) c.deref.ensures.value)
    (c.in_ok-text_of.ensures ∙ ap (λ names. outcomes_in c.args.json t names c.args.depth (values_of kept)) c.deref-2.ensures.value)
    c.is_met_in.ensures c.is_as_claimed.ensures
