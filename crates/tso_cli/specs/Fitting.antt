-- What may be shown of a run of a test, and what may be counted of its runs; and that the runs of a machine keep to it.
use Rattle.std.specs.Prelude.{ℕ, ◌≡◌, ◌+◌, ◌<◌, ◌≤◌, ◌^◌, true, if◌then◌else◌, List, length, All, is_some}
use Rattle.tso_cli.specs.Vocabulary.{AnswersFit, Choice, Configuration, counts_under, ended_in, IsRunOf, IsTest, Litmus, looked_at}
use Rattle.tso_cli.specs.Vocabulary.{most_seeds, Named, Plan, ProtocolKind, run_under, RunCounts, runs_in, shown_of, ShownRun, sweep_counts}
use Rattle.tso_cli.specs.Vocabulary.{SweepAnswersFit}
use Rattle.tso_terms.specs.Registers.{IsWord}
use Rattle.scheduler.specs.Limits.{most_choices}
use Rattle.tso_report.specs.Limits.{IsSmall}

-- a run of this test: its parts are as many as the test has, and each is one that a run of the test can leave
pub record RunFitsTest (t : Litmus) (s : ShownRun) : Type 0 where
  pub of_test : IsRunOf t s
  pub small : IsSmall t s

-- a word for each of these registers and locations
pub record IsStateAt (names : List Named) (values : List ℕ) : Type 0 where
  pub each : length values ≡ length names
  pub words : All IsWord values

-- a word for each register and location that is looked at
abbrev pub IsStateOf : Litmus → List ℕ → Type 0
IsStateOf t values = IsStateAt (looked_at t) values

-- runs of this test, fewer than 2^64: what they ended in are states of it, and each run that ended made the condition's
-- proposition true or false, if there is a condition
pub record CountsFitTest (t : Litmus) (c : RunCounts) : Type 0 where
  pub states : All (λ state. IsStateOf t state.0) c.states
  pub verdicts : c.held + c.failed ≡ (if is_some t.condition then ended_in c else 0)
  pub few : runs_in c < 2 ^ 64

-- what is shown of the run under these choices, where it ends
abbrev pub shown_under : Litmus → ProtocolKind → Configuration → List Choice → ShownRun
shown_under t kind c choices = shown_of t (counts_under t kind c choices) (run_under t kind c choices)

-- each run that ends under as many choices as a text may have, with answers such as caches may give, fits its test
abbrev pub EndedRunsFit : Type 0
EndedRunsFit =
    (t : Litmus) (kind : ProtocolKind) (c : Configuration) (choices : List Choice)
    → IsTest t → length choices ≤ most_choices → AnswersFit t kind c choices
    → (run_under t kind c choices).ended ≡ true → RunFitsTest t (shown_under t kind c choices)

-- of the choices that a run was given each was used or is left over, and no more stalled than were used
abbrev pub ChoicesAreCounted : Type 0
ChoicesAreCounted =
    (t : Litmus) (kind : ProtocolKind) (c : Configuration) (choices : List Choice)
    → ((run_under t kind c choices).used + (run_under t kind c choices).unused ≡ length choices)
    × ((run_under t kind c choices).stalled ≤ (run_under t kind c choices).used)

-- what is counted of the runs of a plan, with such answers, fits their test
abbrev pub SweptCountsFit : Type 0
SweptCountsFit =
    (t : Litmus) (kind : ProtocolKind) (c : Configuration) (plan : Plan)
    → IsTest t → plan.seeds ≤ most_seeds → SweepAnswersFit t kind c plan → CountsFitTest t (sweep_counts t kind c plan)
