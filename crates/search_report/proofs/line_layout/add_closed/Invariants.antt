use Rattle.search_report.proofs.Vocabulary.{◌≡◌, ◌++◌, map, vec_len}
use Rattle.search_report.specs.Lines as spec
use Rattle.search_report.specs.inner.LineParts.{closed_of, reason_lines_in}
use Rattle.search_report.proofs.line_layout.add_closed.Given as goal

abbrev pub invariant-loop-case : goal.invariant-loop-case
invariant-loop-case l =
    map (spec.closed_case l.question) (map closed_of l.left.items) ++ reason_lines_in l.lines.items
    ≡ map (spec.closed_case l.question) (map closed_of l.fn.closed.items) ++ reason_lines_in l.fn.lines.items

abbrev pub decreases-loop-case : goal.decreases-loop-case
decreases-loop-case l = vec_len l.left
