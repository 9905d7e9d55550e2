use Rattle.search_report.proofs.Vocabulary.{◌≡◌, ◌++◌, map, vec_len}
use Rattle.search_report.specs.Lines as spec
use Rattle.search_report.specs.inner.LineViews.{reason_line_of}
use Rattle.search_report.specs.inner.LineParts.{reason_lines_in, part_in}
use Rattle.search_report.proofs.line_layout.add_part.Given as goal

abbrev pub invariant-loop-line : goal.invariant-loop-line
invariant-loop-line l =
    map reason_line_of l.all.items ++ reason_lines_in l.left.items
    ≡ map reason_line_of l.fn.all.items ++ spec.part_lines (part_in l.fn.part)

abbrev pub decreases-loop-line : goal.decreases-loop-line
decreases-loop-line l = vec_len l.left
