use Rattle.tso_cli.proofs.Vocabulary.{◌≢◌, Refused, choices_refusal, IsLastStep}
use Rattle.scheduler.specs.declared.fault.ChoiceFault.TheVariants as faults
use Rattle.tso_cli.specs.Trace as trace
use Rattle.tso_cli.specs.inner.Step.{refused}
use Rattle.tso_cli.proofs.stepping.test_answer.Goals as goal
use Rattle.tso_cli.proofs.AnswerLemmas.{refusal-is}

pub returns-in-Err : goal.returns-in-Err
returns-in-Err c =
    let line = choices_refusal c.in-Err.fault in
    refusal-is (IsLastStep c.args.setup.now.test.now c.args.setup.now.protocol c.args.setup.now.config c.args.text.now)
    (c.in-Err.fault ≢ faults.NoMemory) c.refused_choices.result
    line Refused c.refused_choices.ensures.says c.refused_choices.ensures.real
    (λ real. refused line (trace.refused c.in-Err.fault (rw c.cores.ensures.value at (c.in-Err.ensures.refused real))))
