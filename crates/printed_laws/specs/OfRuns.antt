-- The runs of a machine, and what is printed of them: where the same is printed of two, the same is shown of both.
use Rattle.std.specs.Prelude.{◌≡◌, ◌≤◌, Bool, true, false, List, length}
use Rattle.printed_laws.specs.Vocabulary.{AnswersFit, Configuration, IsConfigurationWithinLimits, IsTest, Litmus, most_choices}
use Rattle.printed_laws.specs.Vocabulary.{ProtocolKind, run_under, shown_under}
use Rattle.tso_terms.specs.declared.choice.Choice.{Choice}
use Rattle.tso_cli.specs.CommandAnswers.{text_under}

-- two runs leave the same to be printed: both ended, and the same is shown of them, or neither did, and both used as many
-- choices, of which as many stalled
pub record RunsLeaveTheSame (t : Litmus) (kind : ProtocolKind) (c : Configuration) (choices other : List Choice) : Type 0 where
  pub ended : (run_under t kind c choices).ended ≡ (run_under t kind c other).ended
  pub shown : (run_under t kind c choices).ended ≡ true → shown_under t kind c choices ≡ shown_under t kind c other
  pub used : (run_under t kind c choices).ended ≡ false → (run_under t kind c choices).used ≡ (run_under t kind c other).used
  pub stalled : (run_under t kind c choices).ended ≡ false → (run_under t kind c choices).stalled ≡ (run_under t kind c other).stalled

-- runs of which the same is printed, under whatever choices
abbrev pub PrintedRunsAreTold : Type 0
PrintedRunsAreTold =
    (t : Litmus) (kind : ProtocolKind) (c : Configuration) (json : Bool) (choices other : List Choice)
    → IsTest t → IsConfigurationWithinLimits c → length choices ≤ most_choices → length other ≤ most_choices
    → AnswersFit t kind c choices → AnswersFit t kind c other
    → text_under t kind c json choices ≡ text_under t kind c json other → RunsLeaveTheSame t kind c choices other
