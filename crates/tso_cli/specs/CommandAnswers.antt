-- The answers of `run` and `check` to a test and the second part of an input: what is written, and the status.
use Rattle.std.specs.Prelude.{ℕ, Bool, if◌then◌else◌, List, length}
use Rattle.tso_cli.specs.Vocabulary.{AnswersFit, Breach, Choice, ChoiceFault, Configuration, Counts, counts_under, Entry, HasFault}
use Rattle.tso_cli.specs.Vocabulary.{IsFirstBreach, IsRefusedAsChoices, IsTsoExecution, Litmus, OrderFault, ProtocolKind, Run, run_under}
use Rattle.tso_cli.specs.Vocabulary.{shown_of, SpellsChoices, SpellsOrder}
use Rattle.tso_cli.specs.Lines.{choices_refusal}
use Rattle.tso_cli.specs.RunTexts.{report_in, unfinished_in}
use Rattle.tso_cli.specs.CheckLines.{order_refusal, valid_line, invalid_line}
use Rattle.tso_cli.specs.declared.answer.Status.{Status}
use Rattle.tso_cli.specs.declared.answer.Status.TheVariants.{Good, Refused, Unended, Invalid}

-- what is written of a run with these counts: the report where it ended, else how far it came
abbrev pub run_text : Litmus → ProtocolKind → Configuration → Bool → List Counts → Run → List ℕ
run_text t kind c json counts r = if r.ended then report_in json t kind c (shown_of t counts r) else unfinished_in json r.used r.stalled

abbrev pub run_status : Run → Status
run_status r = if r.ended then Good else Unended

-- the same of a test's run under choices
abbrev pub text_under : Litmus → ProtocolKind → Configuration → Bool → List Choice → List ℕ
text_under t kind c json choices = run_text t kind c json (counts_under t kind c choices) (run_under t kind c choices)

abbrev pub status_under : Litmus → ProtocolKind → Configuration → List Choice → Status
status_under t kind c choices = run_status (run_under t kind c choices)

-- the answer of `run` to a test and the text of its choices, plain or as JSON; a refusal is the same line either way;
-- along a run the caches answered as caches may
pub data IsRunAnswer (t : Litmus) (kind : ProtocolKind) (c : Configuration) (json : Bool) (text : List ℕ) : List ℕ → Status → Type 0 where
  refused : (fault : ChoiceFault) → IsRefusedAsChoices (length t.programs) text fault
      → IsRunAnswer t kind c json text (choices_refusal fault) Refused
  ran : (choices : List Choice) → SpellsChoices (length t.programs) text choices → AnswersFit t kind c choices
      → IsRunAnswer t kind c json text (text_under t kind c json choices) (status_under t kind c choices)

-- the answer of `check` to a test and an order of it
pub data IsJudgement (t : Litmus) (order : List Entry) : List ℕ → Status → Type 0 where
  valid : IsTsoExecution t order → IsJudgement t order valid_line Good
  invalid : (breach : Breach) → IsFirstBreach t order breach → IsJudgement t order (invalid_line t breach) Invalid

-- the answer of `check` to a test and the text of an order
pub data IsCheckAnswer (t : Litmus) (text : List ℕ) : List ℕ → Status → Type 0 where
  refused : (fault : OrderFault) → HasFault t text fault → IsCheckAnswer t text (order_refusal fault) Refused
  judged : (order : List Entry) (out : List ℕ) (status : Status) → SpellsOrder t text order → IsJudgement t order out status
      → IsCheckAnswer t text out status
