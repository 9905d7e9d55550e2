use Rattle.search_report.proofs.Vocabulary.{◌≡◌, ◌+◌, drop}
use Rattle.search_report.specs.inner.LineParts.{place_with_text}
use Rattle.search_report.proofs.cases_of_lines.place_of.Given as goal

abbrev pub invariant-loop-c : goal.invariant-loop-c
invariant-loop-c l = record {
  place : l.at ≡ l.c-index;
  left : place_with_text l.closed l.text ≡ l.c-index + place_with_text (drop l.c-index l.closed) l.text;
}
