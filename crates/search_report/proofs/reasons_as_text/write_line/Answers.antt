use Rattle.search_report.proofs.Vocabulary.{◌∙◌, ◌++◌, [], ◌∷◌, ap, refl, append_assoc, string_bytes, flat_map, on_ok_weaker}
use Rattle.search_report.specs.inner.Contents.{field_text}
use Rattle.search_report.proofs.Growing.{all-made}
use Rattle.search_report.proofs.reasons_as_text.write_line.Goals as goal

pub returns : goal.returns
returns c =
    let f = field_text c.args.test.now in
    on_ok_weaker c.write_characters-2.result
    (λ e. e ∙ (ap (λ z. z ++ (10 ∷ [])) (all-made (flat_map f) refl c.args.fields.now c.loop-before.before-index (string_bytes c.loop-before.text) _
    c.loop-before-test.false c.loop-before.invariant)
    ∙ append_assoc (string_bytes c.args.text.now) (flat_map f c.args.fields.now) (10 ∷ []))) c.write_characters-2.ensures
