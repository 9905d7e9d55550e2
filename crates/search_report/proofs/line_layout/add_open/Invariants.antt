use Rattle.search_report.proofs.Vocabulary.{◌≡◌, ◌++◌, flat_map, map, vec_len}
use Rattle.search_report.specs.Lines as spec
use Rattle.search_report.specs.inner.LineParts.{open_of, reason_lines_in}
use Rattle.search_report.proofs.line_layout.add_open.Given as goal

abbrev pub invariant-loop-case : goal.invariant-loop-case
invariant-loop-case l =
    flat_map (spec.open_case l.question) (map open_of l.left.items) ++ reason_lines_in l.lines.items
    ≡ flat_map (spec.open_case l.question) (map open_of l.fn.others.items) ++ reason_lines_in l.fn.lines.items

abbrev pub decreases-loop-case : goal.decreases-loop-case
decreases-loop-case l = vec_len l.left
