use Rattle.search_report.proofs.Vocabulary.{◌∙◌, ◌∷◌}
use Rattle.std.specs.Option.{option_map}
use Rattle.search_report.specs.Lines as spec
use Rattle.search_report.specs.inner.ShownViews.{shown_closing_of}
use Rattle.search_report.specs.inner.LineParts.{reason_lines_in}
use Rattle.search_report.specs.declared.lines.Line.TheVariants as line
use Rattle.search_report.proofs.Lining.{closed-lines, line_pushed}
use Rattle.search_report.proofs.line_layout.closed_lines.Goals as goal

pub returns : goal.returns
returns c =
    let a = c.answered.ensures in
    closed-lines c.args.question.now c.args.closed.items c.pop.new.self.items c.in-Some.case c.in-Some.ensures.items (reason_lines_in c.push.new.self.items) _
    (line_pushed c.new-lines.result.items c.push.new.self.items (line.So 0 c.answered.result) c.in_ok-push.ensures.items
    ∙ (λ i. spec.So 0 (a.question i) (a.answers i) (option_map shown_closing_of (a.closing i)) ∷ reason_lines_in (c.new-lines.ensures.items i)))
    c.in_ok-add_closed.ensures
