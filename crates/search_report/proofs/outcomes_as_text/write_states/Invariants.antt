use Rattle.search_report.proofs.Vocabulary.{◌≡◌, ◌++◌, string_bytes, kept_of, kept_lines}
use Rattle.search_report.proofs.outcomes_as_text.write_states.Given as goal

abbrev pub invariant-loop-values : goal.invariant-loop-values
invariant-loop-values l =
    string_bytes l.text ++ kept_lines l.test l.names (kept_of l.values-iterator)
    ≡ string_bytes l.initial.text ++ kept_lines l.test l.names (kept_of l.outcomes.entries)
