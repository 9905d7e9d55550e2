use Rattle.tso_cli.proofs.Vocabulary.{◌≢◌, Refused, choices_refusal, IsTraceAnswer}
use Rattle.scheduler.specs.declared.fault.ChoiceFault.TheVariants as faults
use Rattle.tso_cli.specs.Trace.{refused}
use Rattle.tso_cli.proofs.AnswerLemmas.{refusal-is}
use Rattle.tso_cli.proofs.tracing.trace_answer.Goals as goal

pub returns : goal.returns
returns c =
    refusal-is (IsTraceAnswer c.args.test.now c.args.protocol c.args.config c.args.json c.args.text.now)
    (c.in-Err.fault ≢ faults.NoMemory) c.refused_choices.result
    (choices_refusal c.in-Err.fault) Refused c.refused_choices.ensures.says c.refused_choices.ensures.real
    (λ real. refused c.in-Err.fault (rw c.cores.ensures.value at (c.in-Err.ensures.refused real)))
