use Rattle.tso_report.proofs.Vocabulary.{◌≡◌, ◌++◌, drop, string_bytes, printed_values}
use Rattle.tso_report.proofs.printed_values.write_values.Given as goal

abbrev pub invariant-loop-at : goal.invariant-loop-at
invariant-loop-at l =
    string_bytes l.text ++ printed_values l.test (drop l.at l.names) (drop l.at l.values)
    ≡ string_bytes l.initial.text ++ printed_values l.test l.names l.values
