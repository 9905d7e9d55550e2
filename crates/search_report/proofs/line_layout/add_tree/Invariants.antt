use Rattle.search_report.proofs.Vocabulary.{◌≡◌, ◌++◌, map}
use Rattle.std.specs.Vec.Iter.{into_iter_items}
use Rattle.search_report.specs.inner.LineViews.{reason_line_of}
use Rattle.search_report.proofs.line_layout.add_tree.Given as goal

abbrev pub invariant-loop-line : goal.invariant-loop-line
invariant-loop-line l =
    map reason_line_of l.all.items ++ map reason_line_of (into_iter_items l.line-iterator)
    ≡ map reason_line_of l.initial.all.items ++ map reason_line_of (into_iter_items l.initial.line-iterator)
