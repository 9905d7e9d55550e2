use Rattle.search_report.proofs.Vocabulary.{◌≡◌, ◌++◌, drop, string_bytes, coherence_by}
use Rattle.search_report.proofs.reasons_as_text.write_coherence.Given as goal

abbrev pub invariant-loop-number : goal.invariant-loop-number
invariant-loop-number l =
    string_bytes l.text ++ coherence_by l.test l.order l.number (drop l.number l.test.locations)
    ≡ string_bytes l.initial.text ++ coherence_by l.test l.order 0 l.test.locations
