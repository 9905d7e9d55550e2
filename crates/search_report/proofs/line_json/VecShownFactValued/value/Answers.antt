use Rattle.search_report.proofs.Vocabulary.{◌≡◌, ◌∙◌, ap, sym, subst, map, map-map, IfOk, Data, array, string, items_of, view}
use Rattle.search_report.specs.ShownText.{fact_text}
use Rattle.search_report.specs.inner.ShownViews.{shown_fact_of}
use Rattle.search_report.proofs.line_json.VecShownFactValued.value.Goals as goal

pub returns : goal.returns
returns c =
    let t = c.args.test.now in
    subst (λ (d : Data). IfOk c.array_of.result (λ value. view value ≡ d))
    (ap (λ ds. array (items_of ds)) (ap (map (λ f. string (fact_text t (shown_fact_of f)))) c.deref.ensures.value
    ∙ sym (map-map (λ f. string (fact_text t f)) shown_fact_of c.args.self.now.items)))
    c.array_of.ensures
