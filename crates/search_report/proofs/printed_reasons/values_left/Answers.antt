use Rattle.search_report.proofs.Vocabulary.{◌∙◌, ap, refl, length}
use Rattle.execution_check.proofs.Counting.{registers-count, words-count}
use Rattle.search_report.proofs.ShownReasons.{known-moved}
use Rattle.search_report.proofs.printed_reasons.values_left.Goals as goal

pub values_at-requires : goal.values_at-requires
values_at-requires c =
    let t = c.args.test.now in
    let order = c.args.order.now in
    known-moved (length t.programs) (length t.locations) (length c.deref.result.now) (length c.deref-2.result.now) c.args.names.now c.args.names.now
    (ap length (c.deref.ensures.value ∙ c.in_ok-registers.ensures) ∙ registers-count 0 t.programs t.registers order)
    (ap length (c.deref-2.ensures.value ∙ c.in_ok-words.ensures) ∙ (words-count 0 t.words order ∙ c.know_limits.ensures.words_given))
    refl c.requires
