use Rattle.tso_report.proofs.Vocabulary.{◌∙◌, ◌+◌, ◌++◌, ap, decimal, string_bytes, on_ok_weaker}
use Rattle.tso_report.proofs.Texts.{sweep_nested}
use Rattle.tso_report.proofs.tally_text.write_sweep.Goals as goal

pub returns : goal.returns
returns c =
    on_ok_weaker c.write_pieces.result
    (λ e. e ∙ ap (λ text. string_bytes c.args.text.now ++ text)
    (sweep_nested (decimal c.args.from) (decimal (c.args.ended + c.args.unfinished)) (decimal c.args.length)
    (decimal c.args.ended) (decimal c.args.unfinished)))
    c.write_pieces.ensures
