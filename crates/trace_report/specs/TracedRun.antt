-- What `trace` prints as a JSON value: the members that `run` prints, and with them the programs, the condition's proposition
-- and the trace. (This project's profile.)
use Rattle.std.specs.Prelude.{ℕ, List, codes}
use Rattle.trace_report.specs.Vocabulary.{Configuration, Data, Ended, Ending, Litmus, Members, object, ProtocolKind, put, run_members}
use Rattle.trace_report.specs.Vocabulary.{shown_run, Unfinished, unfinished_members}
use Rattle.serde_json.specs.Written.{compact_text}
use Rattle.tso_terms.specs.declared.choice.Choice.{Choice}
use Rattle.tso_report.specs.Shown.{ShownRun}
use Rattle.tso_report.specs.Report.{line}
use Rattle.trace_report.specs.ProgramsJson.{programs_value}
use Rattle.trace_report.specs.PropositionJson.{proposition_value}
use Rattle.trace_report.specs.TraceJson.{trace_json, last_step_json}

-- maximum number of steps of a trace as a JSON value
abbrev pub most_steps : ℕ
most_steps = 1000

-- the members that `run` prints of how a run left its test
abbrev pub ending_members : Litmus → ProtocolKind → Configuration → Ending → Members
ending_members t kind c (Ended run) = run_members t kind c (shown_run run)
ending_members t kind c (Unfinished used stalled) = unfinished_members used stalled

-- members, and with them what this trace adds
abbrev pub with_trace_value : Litmus → Data → Members → Members
with_trace_value t trace members =
    put (codes "programs") (programs_value t)
    (put (codes "proposition") (proposition_value t)
    (put (codes "trace") trace members))

-- the same as one line
abbrev pub line_with : Litmus → Data → Members → List ℕ
line_with t trace members = line (compact_text (object (with_trace_value t trace members)))

-- members, and with them what the trace of a run under these choices adds
abbrev pub with_trace : Litmus → ProtocolKind → Configuration → List Choice → Members → Members
with_trace t kind c choices members = with_trace_value t (trace_json t kind c choices) members

-- a run of the test that ended, under these choices on a machine of this protocol and configuration
abbrev pub ended_value : Litmus → ProtocolKind → Configuration → List Choice → ShownRun → Data
ended_value t kind c choices s = object (with_trace t kind c choices (run_members t kind c s))

-- one that didn't end: so many choices were used, and so many of them stalled
abbrev pub unended_value : Litmus → ProtocolKind → Configuration → List Choice → ℕ → ℕ → Data
unended_value t kind c choices used stalled = object (with_trace t kind c choices (unfinished_members used stalled))

-- what is printed: the compact text of the value, on one line
abbrev pub json_ended : Litmus → ProtocolKind → Configuration → List Choice → ShownRun → List ℕ
json_ended t kind c choices s = line (compact_text (ended_value t kind c choices s))

abbrev pub json_unended : Litmus → ProtocolKind → Configuration → List Choice → ℕ → ℕ → List ℕ
json_unended t kind c choices used stalled = line (compact_text (unended_value t kind c choices used stalled))

-- of the trace the last step alone, with the machine after it
abbrev pub json_last_step : Litmus → ProtocolKind → Configuration → List Choice → List ℕ
json_last_step t kind c choices = line (compact_text (last_step_json t kind c choices))
