use Rattle.tso_report.proofs.Vocabulary.{ℕ, List, ◌∙◌, ◌++◌, ◌∷◌, [], ap, codes, decimal, string_bytes, on_ok_weaker}
use Rattle.tso_report.specs.Tally.{frequency}
use Rattle.tso_report.proofs.Texts.{observed_nested}
use Rattle.tso_report.proofs.observation.write_observed.Goals as goal

pub returns : goal.returns
returns c =
    let held : List ℕ = decimal c.args.held in
    let failed : List ℕ = decimal c.args.failed in
    on_ok_weaker c.write_pieces.result
    (λ e. e ∙ ap (λ text. string_bytes c.args.text.now ++ text)
    (ap (λ word.
    codes "Observation "
    ++ (c.args.name.now ++ (codes " " ++ (word ++ (codes " " ++ (held ++ (codes " " ++ (failed ++ 10 ∷ []))))))))
    c.frequency.ensures
    ∙ observed_nested c.args.name.now (frequency c.args.held c.args.failed) held failed)) c.write_pieces.ensures
