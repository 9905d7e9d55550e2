use Rattle.trace_report.proofs.Vocabulary.{◌≡◌, ◌+◌, ◌++◌, take, drop, string_bytes, after_plus}
use Rattle.trace_report.proofs.text.write_line_name.Given as goal

abbrev pub invariant-loop-loc : goal.invariant-loop-loc
invariant-loop-loc l =
    string_bytes l.text ++ after_plus (drop l.loc (take (l.first + l.words) l.test.locations))
    ≡ string_bytes l.initial.text ++ after_plus (drop (l.first + 1) (take (l.first + l.words) l.test.locations))
