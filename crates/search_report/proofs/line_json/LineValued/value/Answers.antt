use Rattle.search_report.proofs.Vocabulary.{◌≡◌, sym, subst, IfOk, view, count}
use Rattle.search_report.specs.LineJson.{line_value}
use Rattle.search_report.specs.inner.LineViews.{reason_line_of}
use Rattle.search_report.specs.declared.lines.Line.{Line}
use Rattle.search_report.proofs.line_json.LineValued.value.Goals as goal

pub returns-in-Given : goal.returns-in-Given
returns-in-Given c =
    subst (λ (x : Line). IfOk c.value-in-Given.result (λ value. view value ≡ line_value c.args.test.now (reason_line_of x))) (sym c.in-Given.is)
    (c.value-in-Given.ensures _ (c.member-in-Given.ensures _ _ (c.member.ensures _ _ c.new.ensures c.value.ensures) c.word_value.ensures))

pub returns-in-Never : goal.returns-in-Never
returns-in-Never c =
    subst (λ (x : Line). IfOk c.value-in-Never-2.result (λ value. view value ≡ line_value c.args.test.now (reason_line_of x))) (sym c.in-Never.is)
    (c.value-in-Never-2.ensures _
    (c.member-in-Never-3.ensures _ _
    (c.member-in-Never-2.ensures _ (count c.in-Never.number) (c.member-in-Never.ensures _ _ c.new-in-Never.ensures
    c.value-in-Never.ensures) c.from.ensures) c.word_value-in-Never.ensures))

pub returns-in-Leaf : goal.returns-in-Leaf
returns-in-Leaf c =
    subst (λ (x : Line). IfOk c.value-in-Leaf-2.result (λ value. view value ≡ line_value c.args.test.now (reason_line_of x))) (sym c.in-Leaf.is)
    (c.value-in-Leaf-2.ensures _
    (c.member-in-Leaf-3.ensures _ _ (c.member-in-Leaf-2.ensures _ (count c.in-Leaf.depth) (c.member-in-Leaf.ensures _ _ c.new-in-Leaf.ensures
    c.value-in-Leaf.ensures) c.from-in-Leaf.ensures) c.word_value-in-Leaf.ensures))

pub returns-in-Endcases : goal.returns-in-Endcases
returns-in-Endcases c =
    subst (λ (x : Line). IfOk c.value-in-Endcases.result (λ value. view value ≡ line_value c.args.test.now (reason_line_of x))) (sym c.in-Endcases.is)
    (c.value-in-Endcases.ensures _
    (c.member-in-Endcases-2.ensures _ _
    (c.member-in-Endcases.ensures _ (count c.in-Endcases.depth) c.new-in-Endcases.ensures c.from-in-Endcases.ensures)
    c.word_value-in-Endcases.ensures))
