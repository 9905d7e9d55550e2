use Rattle.search_report.proofs.Vocabulary.{◌≡◌, sym, subst, IfOk, view, map, place_of}
use Rattle.search_report.specs.Shown.{False}
use Rattle.search_report.specs.LineJson.{closing_value}
use Rattle.search_report.specs.inner.ShownViews.{shown_closing_of}
use Rattle.search_report.specs.declared.shown.Closing.{Closing}
use Rattle.search_report.proofs.line_json.ClosingValued.value.Goals as goal

pub returns-in-Between : goal.returns-in-Between
returns-in-Between c =
    subst (λ (x : Closing). IfOk c.value.result (λ value. view value ≡ closing_value c.args.test.now (shown_closing_of x))) (sym c.in-Between.is)
    (c.value.ensures _
    (c.member-in-Between-3.ensures _ _ (c.member-in-Between-2.ensures _ _ (c.member-in-Between.ensures _ _ (c.member.ensures _ _ c.new.ensures
    c.content_value.ensures) c.content_value-in-Between.ensures) c.word_value.ensures) c.content_value-in-Between-2.ensures))

pub returns-in-False : goal.returns-in-False
returns-in-False c =
    subst (λ (x : Closing). IfOk c.value-in-False.result (λ value. view value ≡ closing_value c.args.test.now (shown_closing_of x))) (sym c.in-False.is)
    (subst (λ ps. IfOk c.value-in-False.result (λ value. view value ≡ closing_value c.args.test.now (False (map place_of ps)))) c.deref-in-False.ensures.value
    (c.value-in-False.ensures _ (c.member-in-False-2.ensures _ _ (c.member-in-False.ensures _ _ c.new-in-False.ensures c.content_value-in-False.ensures)
    c.word_value-in-False.ensures)))

pub returns-in-NoAnswer : goal.returns-in-NoAnswer
returns-in-NoAnswer c =
    subst (λ (x : Closing). IfOk c.value-in-NoAnswer.result (λ value. view value ≡ closing_value c.args.test.now (shown_closing_of x))) (sym c.in-NoAnswer.is)
    (c.value-in-NoAnswer.ensures _
    (c.member-in-NoAnswer-3.ensures _ _ (c.member-in-NoAnswer-2.ensures _ _ (c.member-in-NoAnswer.ensures _ _ c.new-in-NoAnswer.ensures
    c.written_value.ensures) c.word_value-in-NoAnswer.ensures) c.word_value-in-NoAnswer-2.ensures))

pub returns-in-ByLemma : goal.returns-in-ByLemma
returns-in-ByLemma c =
    subst (λ (x : Closing). IfOk c.value-in-ByLemma.result (λ value. view value ≡ closing_value c.args.test.now (shown_closing_of x))) (sym c.in-ByLemma.is)
    (c.value-in-ByLemma.ensures _ (c.member-in-ByLemma-2.ensures _ _ (c.member-in-ByLemma.ensures _ _ c.new-in-ByLemma.ensures c.from.ensures)
    c.word_value-in-ByLemma.ensures))
