use Rattle.search_report.proofs.Vocabulary.{◌∙◌, ◌∷◌, [], map}
use Rattle.std.specs.Option.{option_map}
use Rattle.search_report.specs.Lines as spec
use Rattle.search_report.specs.inner.ShownViews.{shown_closing_of}
use Rattle.search_report.specs.inner.LineParts.{closed_of, reason_lines_in}
use Rattle.search_report.specs.declared.lines.Line.TheVariants as line
use Rattle.search_report.proofs.Lining.{taken, maps-last, line_pushed}
use Rattle.search_report.proofs.line_layout.add_closed.Goals as goal

pub loop-case-preserved : goal.loop-case-preserved
loop-case-preserved c =
    let q = c.args.question.now in
    let case = c.in-Some.case in
    let old = reason_lines_in c.loop-case.lines.items in
    taken (λ cs. map (spec.closed_case q) (map closed_of cs)) c.loop-case.left.items c.pop.new.self.items case
    (spec.closed_case q (closed_of case) ∷ []) (maps-last (spec.closed_case q) closed_of c.pop.new.self.items case) c.in-Some.ensures.items
    old (reason_lines_in c.push.new.self.items) _
    (line_pushed c.loop-case.lines.items c.push.new.self.items (line.Case 0 c.answered.result) c.in_ok-push.ensures.items
    ∙ (λ i. spec.Case 0 (c.answered.ensures.question i) (c.answered.ensures.answers i) (option_map shown_closing_of (c.answered.ensures.closing i)) ∷ old))
    c.loop-case.invariant
