use Rattle.search_report.proofs.Vocabulary.{◌∙◌, ◌∷◌, map, flat_map}
use Rattle.std.specs.Option.{option_map}
use Rattle.search_report.specs.Lines as spec
use Rattle.search_report.specs.inner.ShownViews.{shown_closing_of}
use Rattle.search_report.specs.inner.LineParts.{open_of, reason_lines_in}
use Rattle.search_report.specs.declared.lines.Line.TheVariants as line
use Rattle.search_report.proofs.Lining.{taken, flat-maps-last, line_pushed}
use Rattle.search_report.proofs.line_layout.add_open.Goals as goal

pub loop-case-preserved : goal.loop-case-preserved
loop-case-preserved c =
    let q = c.args.question.now in
    let case = c.in-Some.case in
    let a = c.in_ok-followed.ensures in
    taken (λ os. flat_map (spec.open_case q) (map open_of os)) c.loop-case.left.items c.pop.new.self.items case
    (spec.open_case q (open_of case)) (flat-maps-last (spec.open_case q) open_of c.pop.new.self.items case) c.in-Some.ensures.items
    (reason_lines_in c.loop-case.lines.items) (reason_lines_in c.push.new.self.items) _
    (line_pushed c.add_deeper.new.lines.items c.push.new.self.items (line.Case 0 c.in_ok-followed.field-0) c.in_ok-push.ensures.items
    ∙ (λ i. spec.Case 0 (a.question i) (a.answers i) (option_map shown_closing_of (a.closing i)) ∷ c.in_ok-add_deeper.ensures i))
    c.loop-case.invariant
