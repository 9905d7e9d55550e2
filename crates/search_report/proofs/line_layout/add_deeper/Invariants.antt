use Rattle.search_report.proofs.Vocabulary.{◌≡◌, ◌++◌, map}
use Rattle.std.specs.Vec.Iter.{into_iter_items}
use Rattle.search_report.specs.Lines as spec
use Rattle.search_report.specs.inner.LineParts.{reason_lines_in}
use Rattle.search_report.proofs.line_layout.add_deeper.Given as goal

abbrev pub invariant-loop-line : goal.invariant-loop-line
invariant-loop-line l =
    map spec.deeper (reason_lines_in (into_iter_items l.line-iterator)) ++ reason_lines_in l.lines.items
    ≡ map spec.deeper (reason_lines_in l.fn.part.items) ++ reason_lines_in l.fn.lines.items
