use Rattle.search_report.proofs.Vocabulary.{◌∙◌, ◌++◌, ap, sym, string_bytes, flat_map-map, place_of, on_ok_weaker}
use Rattle.search_report.specs.ReasonText.{place_text}
use Rattle.search_report.specs.inner.Contents.{content_text}
use Rattle.search_report.proofs.contents_as_text.write_shown.Goals as goal

pub returns-in-Places : goal.returns-in-Places
returns-in-Places c =
    let t = c.args.test.now in
    let bytes = string_bytes c.args.text.now in
    on_ok_weaker c.write_each-in-Places.result
    (λ e. e
    ∙ (ap (λ z. bytes ++ z) (sym (flat_map-map (place_text t) place_of c.in-Places.places.now))
    ∙ ap (λ p. bytes ++ content_text t p) (sym c.in-Places.is)))
    c.write_each-in-Places.ensures
