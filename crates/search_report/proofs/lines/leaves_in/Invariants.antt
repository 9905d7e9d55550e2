use Rattle.search_report.proofs.Vocabulary.{◌≡◌, ◌≤◌, ◌+◌, drop, map}
use Rattle.search_report.specs.Lines as spec
use Rattle.search_report.specs.inner.LineViews.{reason_line_of}
use Rattle.search_report.proofs.lines.leaves_in.Given as goal

abbrev pub invariant-loop-line : goal.invariant-loop-line
invariant-loop-line l =
    record {
      count : l.leaves + spec.leaves_in (map reason_line_of (drop l.line-index l.lines)) ≡ spec.leaves_in (map reason_line_of l.lines);
      few : l.leaves ≤ l.line-index;
    }
