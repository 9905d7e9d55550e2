use Rattle.search_report.proofs.Vocabulary.{◌≡◌, ◌∙◌, ◌++◌, ℕ, List, ap, subst, codes, string_bytes}
use Rattle.std.specs.Result.{OnOk}
use Rattle.search_report.specs.ShownText.{fact_text, separated}
use Rattle.search_report.specs.inner.ShownViews.{shown_fact_of}
use Rattle.search_report.proofs.Separating.{separated-map}
use Rattle.search_report.proofs.shown_text.VecShownFactWritten.write.Goals as goal

pub returns : goal.returns
returns c =
    let t = c.args.test.now in
    subst (λ (bytes : List ℕ). OnOk c.write_separated.result (string_bytes c.write_separated.new.text ≡ string_bytes c.args.text.now ++ bytes))
    (ap (separated (codes ", ") (λ f. fact_text t (shown_fact_of f))) c.deref.ensures.value
    ∙ separated-map (codes ", ") (fact_text t) shown_fact_of c.args.self.now.items)
    c.write_separated.ensures
