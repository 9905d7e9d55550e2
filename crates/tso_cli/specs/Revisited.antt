-- The choices that `outcomes` prints, handed to `run`: they end in the state that was printed, so every state can be seen
-- to come up.
use Rattle.std.specs.Prelude.{◌≡◌, ◌⊎◌, ℕ, Bool, List, All, Some}
use Rattle.tso_cli.specs.Vocabulary.{Configuration, Instructions, Litmus, Named, names_shown, Outcome, outcomes_in, printed_choices}
use Rattle.tso_cli.specs.Vocabulary.{ProtocolKind, Search, shown_values, ShownRun, SpellsTest, unfinished_search_in, values_at}
use Rattle.command_line.specs.declared.settings.Settings.TheVariants as settings
use Rattle.tso_cli.specs.Answers.{IsAnswer}
use Rattle.tso_cli.specs.Dividing.{joined_parts}
use Rattle.tso_cli.specs.RunTexts.{report_in}
use Rattle.tso_cli.specs.declared.answer.Status.{Status}
use Rattle.tso_cli.specs.declared.answer.Status.TheVariants.{Good}

-- what is written is the report of a run that ended with these values at these names; none of its choices stalled, and none was left
-- over
pub record ReportsValues (t : Litmus) (names : List Named) (kind : ProtocolKind) (c : Configuration) (json : Bool) (values out : List ℕ)
    : Type 0 where
  pub shown : ShownRun
  pub printed : out ≡ report_in json t kind c shown
  pub values_are : values_at names shown.registers shown.memory ≡ values
  pub stalled : shown.stalled ≡ 0
  pub unused : shown.unused ≡ 0

-- whatever `run` answers to such choices of an outcome, put after the test and a dividing line, is such a report, and a success
abbrev pub IsRevisited : ProtocolKind → Configuration → Instructions → Bool → List ℕ → Litmus → List Named → Outcome → Type 0
IsRevisited kind c set json test t names o =
    (answer : List ℕ) (status : Status)
    → IsAnswer (settings.Run kind c set json) (Some (joined_parts test (printed_choices o.choices))) answer status
    → ReportsValues t names kind c json (shown_values names o) answer × (status ≡ Good)

-- what was printed shows these outcomes, as all that there are, or as some
abbrev pub ShowsOutcomes : Bool → Litmus → Search → List ℕ → List Outcome → Type 0
ShowsOutcomes told t s out outcomes =
    (out ≡ outcomes_in told t (names_shown s.show t) s.depth outcomes) ⊎ (out ≡ unfinished_search_in told t (names_shown s.show t) s.states outcomes)

-- so it is with each state of the given test that was printed
pub record AreRevisited (kind : ProtocolKind) (c : Configuration) (set : Instructions) (s : Search) (json told : Bool) (test out : List ℕ) : Type 0 where
  pub t : Litmus
  pub spelled : SpellsTest set test t
  pub outcomes : List Outcome
  pub printed : ShowsOutcomes told t s out outcomes
  pub each : All (IsRevisited kind c set json test t (names_shown s.show t)) outcomes
