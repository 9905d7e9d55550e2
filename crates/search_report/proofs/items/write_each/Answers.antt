use Rattle.search_report.proofs.Vocabulary.{◌∙◌, ◌++◌, ap, append_assoc, string_bytes}
use Rattle.search_report.proofs.Growing.{written}
use Rattle.search_report.proofs.items.write_each.Goals as goal

pub loop-item-preserved : goal.loop-item-preserved
loop-item-preserved g c =
    let before = c.args.before.now in
    let f = g.T.Written.written c.args.test.now in
    let x = c.item-item.result in
    let old = string_bytes c.loop-item.text in
    written (λ y. before ++ f y) c.args.items.now c.loop-item.item-index x old _ _ c.loop-item-test.true c.item-item.is
    (c.in_ok-write.ensures ∙ (ap (λ z. z ++ f x) c.in_ok-write_characters.ensures ∙ append_assoc old before (f x))) c.loop-item.invariant
