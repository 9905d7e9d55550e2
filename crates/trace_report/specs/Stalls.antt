-- What is shown of a choice that stalls, and its line: why it stalled and nothing else, since nothing changed.
use Rattle.std.specs.Prelude.{ℕ, false, List, [], None}
use Rattle.basic_laws.specs.Types.{Choice, Stalled, Stall}
use Rattle.protocol_tables.specs.PrintedTable.{line}
use Rattle.trace_report.specs.Lines.{outcome_text}
use Rattle.trace_report.specs.Shown.{ShownStep}

-- what is shown of a choice that stalled: that alone
abbrev pub stalled_step : Choice → Stall → ShownStep
stalled_step choice why = record {
  choice = choice;
  outcome = Stalled why;
  entries = [];
  moved = None;
  forwarded = false;
  access = None;
  request = None;
  flushed = None;
  wrote_back = None;
  changes = [];
  buffer = None;
}

-- and its line
abbrev pub stall_line : ℕ → Choice → Stall → List ℕ
stall_line number choice why = line (outcome_text number choice (Stalled why))
