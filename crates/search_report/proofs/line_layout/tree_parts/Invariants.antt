use Rattle.search_report.proofs.Vocabulary.{◌≡◌, map, vec_len}
use Rattle.search_report.specs.Lines as spec
use Rattle.search_report.specs.inner.LineParts.{grown_by, stacked_parts}
use Rattle.search_report.specs.inner.Standing.{standing_of}
use Rattle.search_report.proofs.line_layout.tree_parts.Given as goal

abbrev pub invariant-loop-standing : goal.invariant-loop-standing
invariant-loop-standing l =
    grown_by l.test (map standing_of l.left.items) (stacked_parts l.parts.items)
    ≡ spec.tree_parts l.test (map standing_of l.fn.all.items)

abbrev pub decreases-loop-standing : goal.decreases-loop-standing
decreases-loop-standing l = vec_len l.left
