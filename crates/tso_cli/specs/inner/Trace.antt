-- What is taken of a simulation for a trace: how many choices it used, what comes after its lines, the status of the answer,
-- and, as JSON, the first choice that is too many.
use Rattle.std.specs.Prelude.{ℕ, true, List, length, Option, Some, None}
use Rattle.tso_report.specs.Shown.{shown_run}
use Rattle.tso_cli.specs.Vocabulary.{body, Ended, Ending, IsWordOfChoice, Litmus, most_steps, Run, Unfinished}
use Rattle.tso_cli.specs.Lines.{unfinished_run_line}
use Rattle.tso_cli.specs.Trace.{FitsForm, IsTooLong}
use Rattle.tso_cli.specs.declared.answer.Status.{Status}
use Rattle.tso_cli.specs.declared.answer.Status.TheVariants.{Good, Unended}

-- how many choices were used
abbrev pub used_in : Ending → ℕ
used_in (Ended run) = run.used
used_in (Unfinished used stalled) = used

-- what comes after the trace, as lines: the rest of the report, or how far the run came
abbrev pub lines_left : Litmus → Ending → List ℕ
lines_left t (Ended run) = body t (shown_run run)
lines_left t (Unfinished used stalled) = unfinished_run_line used stalled

-- the status of the answer
abbrev pub status_in : Ending → Status
status_in (Ended run) = Good
status_in (Unfinished used stalled) = Unended

-- a run isn't too long for JSON, or it is and this word of the text says the first choice beyond
abbrev pub IsMeasured : Litmus → Run → List ℕ → Option ℕ → Type 0
IsMeasured t r text None = FitsForm true r
IsMeasured t r text (Some word) = IsTooLong true r × IsWordOfChoice (length t.programs) text most_steps word
