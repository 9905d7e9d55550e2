-- The lines of `outcomes`, and what `run` answers to them.
use Rattle.litmus_tokens.specs.declared.instructions.Instructions.{Instructions}
use Rattle.std.specs.Prelude.{ℕ, ◌≡◌, ◌⊎◌, Bool, List, [], ◌∷◌, ◌++◌, All, Some, codes}
use Rattle.tso_terms.specs.Litmus.{Litmus}
use Rattle.litmus_reader.specs.Spelling.{SpellsTest}
use Rattle.scheduler.specs.Printed.{printed_choices}
use Rattle.protocol_tables.specs.declared.kind.ProtocolKind.{ProtocolKind}
use Rattle.multiprocessor.specs.Configuration.{Configuration}
use Rattle.tso_report.specs.Shown.{ShownRun}
use Rattle.tso_report.specs.Report.{line}
use Rattle.tso_report.specs.declared.named.Named.{Named}
use Rattle.tso_report.specs.ShownNames.{names_shown, values_at}
use Rattle.search_report.specs.Outcomes.{Outcome, state_line, outcomes_text}
use Rattle.search_report.specs.MetOutcomes.{met_text}
use Rattle.command_line.specs.Search.{Search}
use Rattle.command_line.specs.declared.settings.Settings.TheVariants as settings
use Rattle.tso_cli.specs.Dividing.{joined_parts}
use Rattle.tso_cli.specs.RunTexts.{report_in}
use Rattle.tso_cli.specs.declared.answer.Status.{Status}
use Rattle.tso_cli.specs.declared.answer.Status.TheVariants.{Good}
use Rattle.tso_cli.specs.Answers.{IsAnswer}
use Rattle.tso_cli.specs.SweepHeadline.{HasPart}

-- `By`, a space and this text on a line, or `By` alone
abbrev pub line_by : List ℕ → List ℕ
line_by [] = codes "By\n"
line_by (b ∷ bs) = codes "By " ++ line (b ∷ bs)

-- a run ended with this report, no choice stalled, and none was left over; its values are in the text of `outcomes`, on a `State`
-- line, and the next line is `By` with the choices that were given
pub record StandsAbove (t : Litmus) (names : List Named) (kind : ProtocolKind) (c : Configuration) (json : Bool) (out choices answer : List ℕ)
    : Type 0 where
  pub shown : ShownRun
  pub printed : answer ≡ report_in json t kind c shown
  pub lines : HasPart out (state_line t names (values_at names shown.registers shown.memory) ++ line_by choices)
  pub stalled : shown.stalled ≡ 0
  pub unused : shown.unused ≡ 0

-- whatever `run` answers to these choices, put after the test and a dividing line, is such a report, and a success
abbrev pub IsRunAgain : ProtocolKind → Configuration → Instructions → Bool → Litmus → List Named → List ℕ → List ℕ → List ℕ → Type 0
IsRunAgain kind c set json t names test out choices =
    (answer : List ℕ) (status : Status) → IsAnswer (settings.Run kind c set json) (Some (joined_parts test choices)) answer status
    → StandsAbove t names kind c json out choices answer × (status ≡ Good)

-- so it is with each state of the given test whose lines the text has
pub record LinesAreRunAgain (kind : ProtocolKind) (c : Configuration) (set : Instructions) (s : Search) (json : Bool) (test out : List ℕ) : Type 0 where
  pub t : Litmus
  pub spelled : SpellsTest set test t
  pub outcomes : List Outcome
  pub text : (out ≡ outcomes_text t (names_shown s.show t) s.depth outcomes) ⊎ (out ≡ met_text t (names_shown s.show t) s.states outcomes)
  pub each : All (λ o. IsRunAgain kind c set json t (names_shown s.show t) test out (printed_choices o.choices)) outcomes
