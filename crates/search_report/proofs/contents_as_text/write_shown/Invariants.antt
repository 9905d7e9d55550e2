use Rattle.search_report.proofs.Vocabulary.{◌≡◌, ◌++◌, string_bytes}
use Rattle.search_report.specs.ReasonText as spec
use Rattle.search_report.proofs.contents_as_text.write_shown.Given as goal

abbrev pub invariant-loop-deeper : goal.invariant-loop-deeper
invariant-loop-deeper l = string_bytes l.text ≡ string_bytes l.initial.text ++ spec.blanks l._deeper
