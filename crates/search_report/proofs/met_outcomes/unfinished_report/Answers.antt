use Rattle.search_report.proofs.Vocabulary.{◌∙◌, [], string_bytes, ap, values_of, names_shown, kept_of, kept_after}
use Rattle.search_report.specs.MetOutcomes.{unfinished_search_in}
use Rattle.search_report.proofs.MeetingLimit.{kept-met}
use Rattle.search_report.proofs.Printing.{reached-whole, kept-is-shown}
use Rattle.search_report.proofs.met_outcomes.unfinished_report.Goals as goal

pub outcomes_of-requires-clause-finals : goal.outcomes_of-requires-clause-finals
outcomes_of-requires-clause-finals c =
    reached-whole c.args.test.now c.requires.0 c.args.finals.now c.ended_runs_are_executions.ensures c.know_limits.ensures c.requires.1

pub text_of-requires-clause-shown : goal.text_of-requires-clause-shown
text_of-requires-clause-shown c =
    kept-is-shown c.args.test.now c.in_ok-names.names.items c.deref.result.now c.deref-3.result.now c.args.finals.now
    (kept_of c.in_ok-outcomes.outcomes.entries)
    (reached-whole c.args.test.now c.requires.0 c.args.finals.now c.ended_runs_are_executions.ensures c.know_limits.ensures c.requires.1)
    c.deref.ensures.value c.deref-3.ensures.value c.in_ok-outcomes.ensures

pub is_met_in-is_met-requires : goal.is_met_in-is_met-requires
is_met_in-is_met-requires c =
    kept-is-shown c.args.test.now c.in_ok-names.names.items c.deref.result.now c.deref-2.result.now c.args.finals.now
    (kept_of c.in_ok-outcomes.outcomes.entries)
    (reached-whole c.args.test.now c.requires.0 c.args.finals.now c.ended_runs_are_executions.ensures c.know_limits.ensures c.requires.1)
    c.deref.ensures.value c.deref-2.ensures.value c.in_ok-outcomes.ensures

pub returns : goal.returns
returns c =
    let t = c.args.test.now in
    let kept = kept_of c.in_ok-outcomes.outcomes.entries in
    kept-met t (names_shown c.args.show t) c.in_ok-names.names.items c.args.limit c.args.json c.is_met_in-is_met.result c.args.finals.now kept
    (string_bytes c.in_ok-text_of.field-0)
    (reached-whole t c.requires.0 c.args.finals.now c.ended_runs_are_executions.ensures c.know_limits.ensures c.requires.1)
    c.in_ok-names.ensures.list
    (c.in_ok-outcomes.ensures ∙ ap (λ names. kept_after names [] c.args.finals.now) c.deref.ensures.value)
    (c.in_ok-text_of.ensures ∙ ap (λ names. unfinished_search_in c.args.json t names c.args.limit (values_of kept)) c.deref-3.ensures.value)
    c.is_met_in-is_met.ensures
