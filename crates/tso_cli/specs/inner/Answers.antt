-- What one answer says: its bytes and its status, apart from what else the code keeps of it for a hint.
use Rattle.std.specs.Prelude.{ℕ, ◌≡◌, Bool, List, string_bytes}
use Rattle.tso_report.specs.Shown.{shown_run}
use Rattle.tso_cli.specs.Vocabulary.{Configuration, Ended, Ending, Litmus, ProtocolKind, Unfinished}
use Rattle.tso_cli.specs.declared.answer.Answer.{Answer}
use Rattle.tso_cli.specs.declared.answer.Status.{Status}
use Rattle.tso_cli.specs.RunTexts.{report_in, unfinished_in}

-- an answer has these bytes, and this status
pub record Says (answer : Answer) (out : List ℕ) (how : Status) : Type 0 where
  pub text : string_bytes answer.text ≡ out
  pub status : answer.status ≡ how

-- what is written of how a run left its test: the report where it ended, else how far it came
abbrev pub text_of_ending : Bool → Litmus → ProtocolKind → Configuration → Ending → List ℕ
text_of_ending json t kind c (Ended run) = report_in json t kind c (shown_run run)
text_of_ending json t kind c (Unfinished used stalled) = unfinished_in json used stalled
