use Rattle.trace_report.proofs.Vocabulary.{◌≡◌, ◌++◌, drop, string_bytes, changes_text}
use Rattle.trace_report.proofs.text.write_changes.Given as goal

abbrev pub invariant-loop-change : goal.invariant-loop-change
invariant-loop-change l =
    string_bytes l.text ++ changes_text l.test l.words (drop l.change-index l.changes)
    ≡ string_bytes l.initial.text ++ changes_text l.test l.words l.changes
