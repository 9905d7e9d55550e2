use Rattle.search_report.proofs.Vocabulary.{◌≡◌, ◌++◌, flat_map, map, vec_len}
use Rattle.reading_tables.specs.Told.{facts_of}
use Rattle.refutation_checker.specs.Trees.{node_of}
use Rattle.search_report.specs.Lines as spec
use Rattle.search_report.specs.inner.LineViews.{reason_line_of}
use Rattle.search_report.specs.inner.LineParts.{stacked_parts}
use Rattle.search_report.proofs.line_layout.tree_lines.Given as goal

abbrev pub invariant-loop-part : goal.invariant-loop-part
invariant-loop-part l =
    map reason_line_of l.lines.items ++ flat_map spec.part_lines (stacked_parts l.parts.items)
    ≡ spec.tree_lines l.fn.model l.problem.test.now (facts_of l.fn.facts.items) (map node_of l.nodes)

abbrev pub decreases-loop-part : goal.decreases-loop-part
decreases-loop-part l = vec_len l.parts
