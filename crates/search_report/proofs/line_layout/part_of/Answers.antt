use Rattle.search_report.proofs.Vocabulary.{◌∙◌, sym}
use Rattle.search_report.specs.Lines as spec
use Rattle.search_report.specs.inner.Standing.{standing_of}
use Rattle.search_report.proofs.Sharing.{some-taken}
use Rattle.search_report.proofs.Lining.{part-open}
use Rattle.search_report.proofs.line_layout.part_of.Goals as goal

pub returns-clause-part : goal.returns-clause-part
returns-clause-part c =
    let s = c.args.standing in
    (λ i. spec.IsOpen (record {
      answer = (standing_of s).answer;
      lines = (c.in_ok-lines.ensures ∙ (λ j. spec.question_lines (standing_of s).question (c.in_ok-cases.ensures.closed j) (c.in_ok-cases.ensures.left j))) i;
    }))
    ∙ sym (part-open c.args.test.now (standing_of s) _
    (some-taken c.args.parts.now.items s.count _ _ c.args.parts.now.ok.0 c.is_empty.ensures c.if-is_empty.false c.if-count-eq0.false))
