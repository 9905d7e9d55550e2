use Rattle.trace_report.proofs.Vocabulary.{◌≡◌, ◌++◌, drop, string_bytes, entries_text}
use Rattle.trace_report.proofs.text.write_entries.Given as goal

abbrev pub invariant-loop-entry : goal.invariant-loop-entry
invariant-loop-entry l =
    string_bytes l.text ++ entries_text l.test (drop l.entry-index l.entries) ≡ string_bytes l.initial.text ++ entries_text l.test l.entries
