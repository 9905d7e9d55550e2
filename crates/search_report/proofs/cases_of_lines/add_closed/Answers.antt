use Rattle.search_report.proofs.Vocabulary.{◌≤◌, ◌<◌, ◌∙◌, ◌∷◌, ◌++◌, [], ap, sym, subst, refl, map, length, arith, string_bytes}
use Rattle.search_report.specs.inner.LineViews.{shown_facts_of}
use Rattle.search_report.specs.inner.ShownViews.{shown_closing_of}
use Rattle.search_report.specs.inner.LineParts.{HaveTheirTexts, closed_of, place_with_text}
use Rattle.search_report.proofs.Lining.{map-last}
use Rattle.search_report.proofs.Sharing.{closed-apart, closed-together, texts-apart, texts-together}
use Rattle.search_report.proofs.cases_of_lines.add_closed.Goals as goal

pub returns-then-at-len-clause-told : goal.returns-then-at-len-clause-told
returns-then-at-len-clause-told c =
    let cs = c.args.closed.now in
    let within : c.place_of-at.result < length cs.items = let l = c.if-at-len.true in let n = c.len.ensures in let m = cs.ok.0 in omega (arith, l, n, m) in
    texts-together c.args.test.now cs.items c.place_of-at.result c.index_mut.result.now _ c.requires within c.index_mut.ensures.value refl refl

pub returns-then-at-len-clause-closed : goal.returns-then-at-len-clause-closed
returns-then-at-len-clause-closed c =
    let cs = c.args.closed.now in
    let first = c.index_mut.result.now in
    let within : c.place_of-at.result < length cs.items = let l = c.if-at-len.true in let n = c.len.ensures in let m = cs.ok.0 in omega (arith, l, n, m) in
    closed-together c.args.test.now (string_bytes c.in_ok-text.text) (shown_facts_of c.args.answer)
    (shown_closing_of c.args.closing) c.in_ok-text.ensures cs.items c.requires
    c.place_of-at.result
    (c.place_of-at.ensures ∙ (λ i. place_with_text (c.deref.ensures.value i) (c.deref-2.ensures i))) within first _
    c.index_mut.ensures.value
    (λ i. record {
      answers = (ap (map shown_facts_of) c.in_ok-push.ensures.items ∙ map-last shown_facts_of first.answers.items c.args.answer) i;
      closing = shown_closing_of first.closing;
    })

pub returns-clause-told : goal.returns-clause-told
returns-clause-told c =
    subst (HaveTheirTexts c.args.test.now) (sym c.in_ok-push-3.ensures.items)
    (texts-apart c.args.test.now c.args.closed.now.items _ c.requires c.in_ok-text.ensures)

pub returns-clause-closed : goal.returns-clause-closed
returns-clause-closed c =
    let cs = c.args.closed.now in
    let text = string_bytes c.in_ok-text.text in
    let here = c.place_of-at.ensures ∙ (λ i. place_with_text (c.deref.ensures.value i) (c.deref-2.ensures i)) in
    let behind : length cs.items ≤ place_with_text cs.items text =
    let l = c.if-at-len.false in let n = c.len.ensures in let m = cs.ok.0 in omega (arith, l, n, m, here) in
    ap (map closed_of) c.in_ok-push-3.ensures.items
    ∙ closed-apart c.args.test.now text (shown_facts_of c.args.answer) (shown_closing_of c.args.closing) c.in_ok-text.ensures cs.items c.requires behind _
    (λ i. record {
      answers = (ap (map shown_facts_of) (c.in_ok-push-2.ensures.items ∙ ap (λ xs. xs ++ (c.args.answer ∷ [])) c.new-answers.ensures.items)) i;
      closing = shown_closing_of c.args.closing;
    })
