use Rattle.tso_cli.proofs.Vocabulary.{ℕ, Ok, ◌∙◌, refl, TooMany, json_last_step, Refused, status_under, choices_refusal, run_under, too_long, IsLastStep, told}
use Rattle.trace_report.proofs.NoFloats.{last_step_has_no_float}
use Rattle.tso_cli.specs.inner.Step.{refused}
use Rattle.tso_cli.proofs.StepLemmas.{status-is}
use Rattle.tso_cli.proofs.stepping.last_answer.Goals as goal
use Rattle.tso_cli.proofs.AnswerLemmas.{answer-is}

pub returns-in-Some : goal.returns-in-Some
returns-in-Some c =
    let is = rw c.in-Some.is at (c.word_too_far.ensures c.args.choices.now c.requires.spelled c.in_ok-traced.ensures.ending) in
    let line = choices_refusal (TooMany c.in-Some.word) in
    answer-is (IsLastStep c.args.setup.now.test.now c.args.setup.now.protocol c.args.setup.now.config c.args.text.now)
    c.refused_trace.result line Refused c.refused_trace.ensures
    (refused line (too_long c.args.choices.now c.in-Some.word c.requires.spelled is.0 is.1))

pub line_of-requires : goal.line_of-requires
line_of-requires c =
    let short = rw c.in_default.is at (c.word_too_far.ensures c.args.choices.now c.requires.spelled c.in_ok-traced.ensures.ending) in
    rw (c.in_ok-traced.ensures.told (short refl))
    (last_step_has_no_float c.args.setup.now.test.now c.args.setup.now.protocol c.args.setup.now.config c.args.choices.now)

pub returns : goal.returns
returns c =
    let short = rw c.in_default.is at (c.word_too_far.ensures c.args.choices.now c.requires.spelled c.in_ok-traced.ensures.ending) in
    let t = c.args.setup.now.test.now in
    let kind = c.args.setup.now.protocol in
    let config = c.args.setup.now.config in
    let choices = c.args.choices.now in
    answer-is {E = ℕ} (IsLastStep t kind config c.args.text.now)
    (Ok (record { text = c.in_ok-step.step; status = c.status_in-status.result; cause = c.cause_of.result }))
    (json_last_step t kind config choices) (status_under t kind config choices)
    (record {
      text = rw (c.in_ok-traced.ensures.told (short refl)) at c.in_ok-step.ensures;
      status =
          c.status_in-status.ensures
          ∙ status-is t (run_under t kind config choices) c.in_ok-traced.traced.ending c.in_ok-traced.ensures.ending;
    })
    (told choices c.requires.spelled c.in_ok-traced.ensures.answers short)
