use Rattle.search_report.proofs.Vocabulary.{◌∙◌, ◌∷◌, [], ap, map}
use Rattle.std.specs.Vec.Iter.{into_iter_items}
use Rattle.search_report.specs.Lines as spec
use Rattle.search_report.specs.inner.LineViews.{reason_line_of}
use Rattle.search_report.specs.inner.LineParts.{reason_lines_in}
use Rattle.search_report.proofs.Lining.{line_pushed, map-last, taken-first}
use Rattle.search_report.proofs.line_layout.add_deeper.Goals as goal

pub loop-line-preserved : goal.loop-line-preserved
loop-line-preserved c =
    let x = c.in-Some.line in
    let rest = into_iter_items c.next.new.self in
    let old = c.loop-line.lines.items in
    taken-first (λ ls. map spec.deeper (reason_lines_in ls)) (into_iter_items c.loop-line.line-iterator) rest x (spec.deeper (reason_line_of x) ∷ [])
    (map-last spec.deeper (reason_lines_in rest) (reason_line_of x)) c.in-Some.ensures.steps.0
    (reason_lines_in old) (reason_lines_in c.push.new.self.items) _
    (line_pushed old c.push.new.self.items c.in_ok-deeper.field-0 c.in_ok-push.ensures.items ∙ ap (λ l. l ∷ reason_lines_in old) c.in_ok-deeper.ensures)
    c.loop-line.invariant
