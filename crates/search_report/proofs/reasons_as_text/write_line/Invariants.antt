use Rattle.search_report.proofs.Vocabulary.{◌≡◌, ◌++◌, drop, string_bytes, flat_map}
use Rattle.search_report.specs.inner.Contents.{field_text}
use Rattle.search_report.proofs.reasons_as_text.write_line.Given as goal

abbrev pub invariant-loop-before : goal.invariant-loop-before
invariant-loop-before l =
    string_bytes l.text ++ flat_map (field_text l.test) (drop l.before-index l.fields) ≡ string_bytes l.initial.text ++ flat_map (field_text l.test) l.fields
