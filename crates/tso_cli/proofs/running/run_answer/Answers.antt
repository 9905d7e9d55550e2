use Rattle.tso_cli.proofs.Vocabulary.{◌≢◌, ◌∙◌, Refused, run_text, run_status, IsRunAnswer, ran, choices_refusal, run_under, counts_under}
use Rattle.scheduler.specs.declared.fault.ChoiceFault.TheVariants as faults
use Rattle.tso_cli.proofs.AnswerLemmas.{left-is, refusal-is, same-answer}
use Rattle.tso_cli.proofs.StepLemmas.{status-is}
use Rattle.tso_cli.proofs.running.run_answer.Goals as goal
use Rattle.tso_cli.specs.CommandAnswers.{refused}

pub returns-in_ok-text_of_ending-in-Ok : goal.returns-in_ok-text_of_ending-in-Ok
returns-in_ok-text_of_ending-in-Ok c =
    let t = c.args.test.now in
    let kind = c.args.protocol in
    let config = c.args.config in
    let choices = c.in-Ok.choices.items in
    let counts = counts_under t kind config choices in
    let r = run_under t kind config choices in
    let left = rw c.deref.ensures.value at c.in_ok-ending-in-Ok.ensures in
    same-answer (IsRunAnswer t kind config c.args.json c.args.text.now) _ (run_text t kind config c.args.json counts r) c.status_in-status.result (run_status r)
    (c.in_ok-text_of_ending-in-Ok.ensures ∙ left-is c.args.json t kind config counts r c.in_ok-ending-in-Ok.ending left.ending left.counts)
    (c.status_in-status.ensures ∙ status-is t r c.in_ok-ending-in-Ok.ending left.ending)
    (ran choices (rw c.cores.ensures.value at c.in-Ok.ensures.found) left.answers)

pub returns-in-Err : goal.returns-in-Err
returns-in-Err c =
    refusal-is (IsRunAnswer c.args.test.now c.args.protocol c.args.config c.args.json c.args.text.now)
    (c.in-Err.fault ≢ faults.NoMemory) c.refused_choices.result
    (choices_refusal c.in-Err.fault) Refused c.refused_choices.ensures.says c.refused_choices.ensures.real
    (λ real. refused c.in-Err.fault (rw c.cores.ensures.value at (c.in-Err.ensures.refused real)))
