use Rattle.search_report.proofs.Vocabulary.{◌∙◌, ◌∷◌, ◌++◌, ap, sym, map}
use Rattle.std.specs.Option.{option_map}
use Rattle.search_report.specs.Lines as spec
use Rattle.search_report.specs.inner.ShownViews.{shown_closing_of}
use Rattle.search_report.specs.inner.LineParts.{closed_of, reason_lines_in}
use Rattle.search_report.specs.declared.lines.Line.TheVariants as line
use Rattle.search_report.proofs.Lining.{line_pushed, none-left, one-left}
use Rattle.search_report.proofs.line_layout.question_lines.Goals as goal

pub returns-then-is_empty : goal.returns-then-is_empty
returns-then-is_empty c =
    let q = c.args.question.now in
    let a = c.in_ok-followed.ensures in
    let last = c.in-Some.last in
    let closed = map closed_of c.args.closed.items in
    c.in_ok-add_closed.ensures
    ∙ (ap (λ ls. map (spec.closed_case q) closed ++ ls)
    (line_pushed last.lines.items c.push.new.self.items (line.So 0 c.in_ok-followed.field-0) c.in_ok-push.ensures.items
    ∙ (λ i. spec.So 0 (a.question i) (a.answers i) (option_map shown_closing_of (a.closing i)) ∷ reason_lines_in last.lines.items))
    ∙ sym (one-left q closed c.args.others.items c.pop.new.self.items last c.in-Some.ensures.items
    (none-left c.pop.new.self.items _ _ c.pop.new.self.ok.0 c.is_empty.ensures c.if-is_empty.true)))
