-- The last step of a trace of a test: a refusal is that of the whole trace, and so is the status.
use Rattle.std.specs.Prelude.{ℕ, true, List, length}
use Rattle.tso_cli.specs.Vocabulary.{AnswersFit, Choice, Configuration, json_last_step, Litmus, ProtocolKind, run_under, SpellsChoices}
use Rattle.tso_cli.specs.CommandAnswers.{status_under}
use Rattle.tso_cli.specs.Trace.{FitsForm, IsTraceAnswer}
use Rattle.tso_cli.specs.declared.answer.Status.{Status}
use Rattle.tso_cli.specs.declared.answer.Status.TheVariants.{Refused}

-- the answer to a test and the text of choices
pub data IsLastStep (t : Litmus) (kind : ProtocolKind) (c : Configuration) (text : List ℕ) : List ℕ → Status → Type 0 where
  refused : (out : List ℕ) → IsTraceAnswer t kind c true text out Refused → IsLastStep t kind c text out Refused
  told : (choices : List Choice) → SpellsChoices (length t.programs) text choices → AnswersFit t kind c choices
      → FitsForm true (run_under t kind c choices)
      → IsLastStep t kind c text (json_last_step t kind c choices) (status_under t kind c choices)
