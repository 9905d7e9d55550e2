use Rattle.search_report.proofs.Vocabulary.{true, ◌∙◌, ◌++◌, ◌∷◌, [], ap, codes, string_bytes, flat_map, reading_line, coherence_by}
use Rattle.search_report.proofs.Vocabulary.{asked_line, verdict_line, on_ok_weaker}
use Rattle.scheduler.specs.Printed.{printed_after}
use Rattle.tso_report.specs.Tally.{printed_values}
use Rattle.search_report.proofs.ShownReasons.{text-is}
use Rattle.search_report.proofs.reasons_as_text.write_allowed.Goals as goal

pub returns : goal.returns
returns c =
    let t = c.args.test.now in
    let shown = c.args.shown.now in
    on_ok_weaker c.write_verdict.result
    (λ e d is. e
    ∙ (ap (λ z. z ++ verdict_line t.condition true) (c.in_ok-write_characters-3.ensures
    ∙ ap (λ z. z ++ (10 ∷ [])) (c.in_ok-write_values.ensures
    ∙ ap (λ z. z ++ printed_values t shown.names.now shown.values.now) (c.in_ok-write_characters-2.ensures
    ∙ ap (λ z. z ++ (10 ∷ codes "State")) (c.in_ok-write_after.ensures
    ∙ ap (λ z. z ++ printed_after shown.choices.now) (c.in_ok-write_characters.ensures
    ∙ ap (λ z. z ++ codes "By") (c.in_ok-write_coherence.ensures
    ∙ ap (λ z. z ++ coherence_by t shown.order.now 0 t.locations) (c.in_ok-write_each.ensures
    ∙ ap (λ z. z ++ flat_map (reading_line t) shown.readings.now) (c.in_ok-write_asked.ensures
    ∙ ap (λ z. z ++ asked_line t.condition) c.in_ok-write_pieces.ensures))))))))
    ∙ text-is c.args.model t shown.order.now shown.readings.now shown.values.now shown.choices.now d is
    c.name.result.now c.model_name.result.now shown.names.now
    c.name.ensures c.model_name.ensures c.requires.names (string_bytes c.args.text.now))) c.write_verdict.ensures
