-- The answer of `step`, which the page asks for after each choice: of the trace that `trace --json` prints, the last step alone.
use Rattle.std.specs.Prelude.{ℕ, ◌≤◌, true, List, length}
use Rattle.tso_cli.specs.Vocabulary.{AnswersFit, Choice, Configuration, Instructions, json_last_step, Litmus, longest_input, ProtocolKind}
use Rattle.tso_cli.specs.Vocabulary.{run_under, SpellsChoices, SpellsTest}
use Rattle.command_line.specs.declared.settings.Settings.TheVariants as settings
use Rattle.tso_cli.specs.Answers.{IsInputAnswer}
use Rattle.tso_cli.specs.CommandAnswers.{status_under}
use Rattle.tso_cli.specs.Dividing.{parts_of}
use Rattle.tso_cli.specs.Trace.{FitsForm}
use Rattle.tso_cli.specs.declared.answer.Status.{Status}
use Rattle.tso_cli.specs.declared.answer.Status.TheVariants.{Refused}

-- the answer to an input on a machine of this protocol and configuration: a refusal is that of `trace --json`, and of the run that it
-- traces the last step is told, with the run's status
pub data IsStepAnswer (kind : ProtocolKind) (c : Configuration) (set : Instructions) (input : List ℕ) : List ℕ → Status → Type 0 where
  refused : (out : List ℕ) → IsInputAnswer (settings.Trace kind c set true) input out Refused → IsStepAnswer kind c set input out Refused
  told : (t : Litmus) (choices : List Choice) → length input ≤ longest_input → SpellsTest set (parts_of input).test t
      → SpellsChoices (length t.programs) (parts_of input).rest choices → AnswersFit t kind c choices
      → FitsForm true (run_under t kind c choices)
      → IsStepAnswer kind c set input (json_last_step t kind c choices) (status_under t kind c choices)
