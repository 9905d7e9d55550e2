use Rattle.tso_cli.proofs.Vocabulary.{true, TooMany, Refused, refl, ap, ◌∙◌, status_under, choices_refusal, traced_in, IsTraceAnswer, too_long, traced}
use Rattle.trace_report.specs.TracedRun.{line_with, ending_members}
use Rattle.trace_report.proofs.NoFloats.{trace_has_no_float}
use Rattle.tso_cli.proofs.AnswerLemmas.{answer-is, same-answer}
use Rattle.tso_cli.proofs.TraceLemmas.{ending-is}
use Rattle.tso_cli.proofs.tracing.object_answer.Goals as goal

pub returns-in-Some : goal.returns-in-Some
returns-in-Some c =
    let is = rw c.in-Some.is at (c.word_too_far.ensures c.args.choices.now c.requires.spelled c.in_ok-traced.ensures.ending) in
    answer-is
    (IsTraceAnswer c.args.setup.now.test.now c.args.setup.now.protocol c.args.setup.now.config true c.args.text.now)
    c.refused_trace.result (choices_refusal (TooMany c.in-Some.word)) Refused c.refused_trace.ensures
    (too_long c.args.choices.now c.in-Some.word c.requires.spelled is.0 is.1)

pub traced_json-requires-clause-trace : goal.traced_json-requires-clause-trace
traced_json-requires-clause-trace c =
    let short = rw c.in_default.is at (c.word_too_far.ensures c.args.choices.now c.requires.spelled c.in_ok-traced.ensures.ending) in
    rw (c.in_ok-traced.ensures.told (short refl))
    (trace_has_no_float c.args.setup.now.test.now c.args.setup.now.protocol c.args.setup.now.config c.args.choices.now)

pub returns : goal.returns
returns c =
    let short = rw c.in_default.is at (c.word_too_far.ensures c.args.choices.now c.requires.spelled c.in_ok-traced.ensures.ending) in
    let t = c.args.setup.now.test.now in
    let kind = c.args.setup.now.protocol in
    let config = c.args.setup.now.config in
    let choices = c.args.choices.now in
    let left = ending-is t kind config choices c.in_ok-traced.traced.ending c.in_ok-traced.ensures.ending c.in_ok-traced.ensures.counts in
    let text =
    c.in_ok-object.ensures
    ∙ (ap (λ d. line_with t d (ending_members t kind config c.in_ok-traced.traced.ending)) (c.in_ok-traced.ensures.told (short refl))
    ∙ left.0) in
    same-answer (IsTraceAnswer t kind config true c.args.text.now) _ (traced_in true t kind config choices)
    c.status_in-status.result (status_under t kind config choices) text (c.status_in-status.ensures ∙ left.1)
    (traced choices c.requires.spelled c.in_ok-traced.ensures.answers short)
