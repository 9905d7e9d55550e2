use Rattle.search_report.proofs.Vocabulary.{◌≡◌, ◌∙◌, ap, sym, subst, map, map-map, IfOk, Data, array, object, string, items_of, count}
use Rattle.search_report.proofs.Vocabulary.{codes, put, no_members, view}
use Rattle.std.specs.Option.{option_map}
use Rattle.search_report.specs.LineJson.{closed_value, facts_value}
use Rattle.search_report.specs.inner.LineViews.{shown_facts_of}
use Rattle.search_report.specs.inner.ShownViews.{shown_closing_of}
use Rattle.search_report.proofs.line_json.case_value.Goals as goal

pub returns : goal.returns
returns c =
    let t = c.args.test.now in
    let a = c.args.answered.now in
    let shown : map (λ f. facts_value t (shown_facts_of f)) c.deref.result.now ≡ map (facts_value t) (map shown_facts_of a.answers.items) =
    ap (map (λ f. facts_value t (shown_facts_of f))) c.deref.ensures.value ∙ sym (map-map (facts_value t) shown_facts_of a.answers.items) in
    subst (λ (d : Data). IfOk c.value.result (λ value. view value ≡ d))
    (λ i. object (put (codes "step") (string c.args.step.now) (put (codes "question") (string a.question.now) (put (codes "depth") (count c.args.depth)
    (put (codes "closing") (closed_value t (option_map shown_closing_of a.closing)) (put (codes "answers") (array (items_of (shown i))) no_members))))))
    (c.value.ensures _ (c.member-5.ensures _ _
    (c.member-4.ensures _ _ (c.member-3.ensures _ (count c.args.depth) (c.member-2.ensures _ _ (c.member.ensures _ _ c.new.ensures
    c.array_of.ensures) c.closed_value.ensures) c.from.ensures) c.word_value.ensures) c.word_value-2.ensures))
