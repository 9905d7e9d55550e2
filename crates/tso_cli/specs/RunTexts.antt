-- What is written of a run: lines, or a JSON value on one line. Both show the same run.
use Rattle.std.specs.Prelude.{ℕ, Bool, true, false, List}
use Rattle.tso_cli.specs.Vocabulary.{Configuration, Litmus, ProtocolKind, report, ShownRun}
use Rattle.tso_report.specs.Json.{json_report, json_unfinished}
use Rattle.tso_cli.specs.Lines.{unfinished_run_line}

-- of a run that ended: its report
abbrev pub report_in : Bool → Litmus → ProtocolKind → Configuration → ShownRun → List ℕ
report_in false t kind c s = report t kind c s
report_in true t kind c s = json_report t kind c s

-- of a run that hasn't: how far it came
abbrev pub unfinished_in : Bool → ℕ → ℕ → List ℕ
unfinished_in false used stalled = unfinished_run_line used stalled
unfinished_in true used stalled = json_unfinished used stalled
