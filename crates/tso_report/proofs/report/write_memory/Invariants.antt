use Rattle.tso_report.proofs.Vocabulary.{◌≡◌, ◌++◌, drop, string_bytes, printed_words}
use Rattle.tso_report.proofs.report.write_memory.Given as goal

abbrev pub invariant-loop-loc : goal.invariant-loop-loc
invariant-loop-loc l =
    string_bytes l.text ++ printed_words (drop l.loc l.test.locations) (drop l.loc l.memory)
    ≡ string_bytes l.initial.text ++ printed_words l.test.locations l.memory
