-- The choices that `why` prints, handed to `run`: they end with the order of the execution that was printed, so it can be seen to come up.
use Rattle.std.specs.Prelude.{◌≡◌, ℕ, Bool, List, Some}
use Rattle.tso_cli.specs.Vocabulary.{Choice, Configuration, Entry, Instructions, Litmus, Model, printed_choices, ProtocolKind, ShownRun, SpellsTest}
use Rattle.command_line.specs.declared.settings.Settings.TheVariants as settings
use Rattle.tso_cli.specs.Answers.{IsAnswer}
use Rattle.tso_cli.specs.WhyHeadline.{PrintsRefutation, PrintsExecutionOf}
use Rattle.tso_cli.specs.Dividing.{joined_parts}
use Rattle.tso_cli.specs.RunTexts.{report_in}
use Rattle.tso_cli.specs.declared.answer.Status.{Status}
use Rattle.tso_cli.specs.declared.answer.Status.TheVariants.{Good}

-- what is written is the report of a run that ended with this very order; none of its choices stalled, and none was left over
pub record ReportsExecution (t : Litmus) (kind : ProtocolKind) (c : Configuration) (json : Bool) (order : List Entry) (out : List ℕ) : Type 0 where
  pub shown : ShownRun
  pub printed : out ≡ report_in json t kind c shown
  pub reached : shown.order ≡ order
  pub stalled : shown.stalled ≡ 0
  pub unused : shown.unused ≡ 0

-- whatever `run` answers to these choices, put after the test and a dividing line, is such a report, and a success
abbrev pub AreRunAgain : ProtocolKind → Configuration → Instructions → Bool → List ℕ → Litmus → List Choice → List Entry → Type 0
AreRunAgain kind c set json test t choices order =
    (answer : List ℕ) (status : Status)
    → IsAnswer (settings.Run kind c set json) (Some (joined_parts test (printed_choices choices))) answer status
    → ReportsExecution t kind c json order answer × (status ≡ Good)

-- of the given test a refutation was printed, or an execution whose choices are run again so
pub data IsExplained (kind : ProtocolKind) (c : Configuration) (set : Instructions) (json : Bool) (model : Model)
    (told : Bool) (test out : List ℕ) : Type 0 where
  never : (t : Litmus) → SpellsTest set test t → PrintsRefutation t model told out → IsExplained kind c set json model told test out
  allowed : (t : Litmus) → SpellsTest set test t → (said : PrintsExecutionOf t model told out)
      → AreRunAgain kind c set json test t said.choices said.order → IsExplained kind c set json model told test out
