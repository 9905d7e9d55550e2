use Rattle.tso_report.proofs.Vocabulary.{◌≡◌, ◌++◌, string_bytes, counted_state_lines, counted_states}
use Rattle.tso_report.proofs.tally_text.write_states.Given as goal

abbrev pub invariant-loop-values : goal.invariant-loop-values
invariant-loop-values l =
    string_bytes l.text ++ counted_state_lines l.test (counted_states l.values-iterator)
    ≡ string_bytes l.initial.text ++ counted_state_lines l.test (counted_states l.counters.states.entries)
