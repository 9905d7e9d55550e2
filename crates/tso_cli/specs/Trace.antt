-- The answer of `trace`: what `run` answers, with what each choice did: after the first two lines, or in members of its own.
use Rattle.std.specs.Prelude.{ℕ, ◌≡◌, ◌<◌, ◌≤◌, Bool, true, false, if◌then◌else◌, List, ◌++◌, length}
use Rattle.tso_cli.specs.Vocabulary.{AnswersFit, body, Choice, ChoiceFault, Configuration, Counts, counts_under, head, IsRefusedAsChoices}
use Rattle.tso_cli.specs.Vocabulary.{IsWordOfChoice, json_ended, json_unended, Litmus, most_steps, ProtocolKind, Run, run_under, shown_of}
use Rattle.tso_cli.specs.Vocabulary.{SpellsChoices, trace_text, trace_under}
use Rattle.scheduler.specs.declared.fault.ChoiceFault.TheVariants.{TooMany}
use Rattle.tso_cli.specs.Lines.{choices_refusal, unfinished_run_line}
use Rattle.tso_cli.specs.declared.answer.Status.{Status}
use Rattle.tso_cli.specs.declared.answer.Status.TheVariants.{Good, Refused, Unended}

-- what is after the trace of a run with these counts: the rest of its report where it ended, else how far it came
abbrev pub ending_text : Litmus → List Counts → Run → List ℕ
ending_text t counts r = if r.ended then body t (shown_of t counts r) else unfinished_run_line r.used r.stalled

-- what is written of a test's run under choices: the first two lines of its report, its trace, and what is after it
abbrev pub traced_text : Litmus → ProtocolKind → Configuration → List Choice → List ℕ
traced_text t kind c choices =
    head t kind c ++ (trace_text t c.shape.words (trace_under t kind c choices)
    ++ ending_text t (counts_under t kind c choices) (run_under t kind c choices))

-- the same as one line of JSON, of a run with these counts: the object of `run`, with the programs, the proposition and the trace
abbrev pub object_text : Litmus → ProtocolKind → Configuration → List Choice → List Counts → Run → List ℕ
object_text t kind c choices counts r =
    if r.ended then json_ended t kind c choices (shown_of t counts r) else json_unended t kind c choices r.used r.stalled

-- lines, or JSON
abbrev pub traced_in : Bool → Litmus → ProtocolKind → Configuration → List Choice → List ℕ
traced_in false t kind c choices = traced_text t kind c choices
traced_in true t kind c choices = object_text t kind c choices (counts_under t kind c choices) (run_under t kind c choices)

-- the run uses no more choices than a trace may have steps: as JSON there is a limit, as lines there is none
abbrev pub FitsForm : Bool → Run → Type 0
FitsForm json r = json ≡ true → r.used ≤ most_steps

-- it uses more
abbrev pub IsTooLong : Bool → Run → Type 0
IsTooLong json r = (json ≡ true) × (most_steps < r.used)

-- the answer of `trace` to a test and the text of its choices, plain or as JSON; refusals and the status are those of `run`, and a
-- run that is too long for JSON is refused by the word that says the first choice beyond the limit
pub data IsTraceAnswer (t : Litmus) (kind : ProtocolKind) (c : Configuration) (json : Bool) (text : List ℕ) : List ℕ → Status → Type 0 where
  refused : (fault : ChoiceFault) → IsRefusedAsChoices (length t.programs) text fault
      → IsTraceAnswer t kind c json text (choices_refusal fault) Refused
  too_long : (choices : List Choice) (word : ℕ) → SpellsChoices (length t.programs) text choices → IsTooLong json (run_under t kind c choices)
      → IsWordOfChoice (length t.programs) text most_steps word → IsTraceAnswer t kind c json text (choices_refusal (TooMany word)) Refused
  traced : (choices : List Choice) → SpellsChoices (length t.programs) text choices → AnswersFit t kind c choices
      → FitsForm json (run_under t kind c choices)
      → IsTraceAnswer t kind c json text (traced_in json t kind c choices) (if (run_under t kind c choices).ended then Good else Unended)
