use Rattle.tso_report.proofs.Vocabulary.{◌∙◌, ◌+◌, ap, drop, drop_more, map, view, view-Array, array, items_of, string, Entry, printed_entry}
use Rattle.tso_report.proofs.Listed.{listed, all-made, text-pushed}
use Rattle.tso_report.proofs.json.order_value.Goals as goal

pub loop-entry-preserved : goal.loop-entry-preserved
loop-entry-preserved c =
    let value = λ (e : Entry). string (printed_entry c.args.test.now e) in
    let xs = c.args.order.now in
    let i = c.loop-entry.entry-index in
    listed (map view c.loop-entry.values.items) (map view c.push.new.self.items) _ (map value (drop (i + 1) xs)) (map value (drop i xs)) (map value xs)
    (text-pushed c.loop-entry.values.items c.push.new.self.items c.in_ok-text.text _ c.in_ok-push.ensures.items c.in_ok-text.ensures)
    (ap (map value) (drop_more xs i _ c.loop-entry-test.true)) c.loop-entry.invariant

pub returns : goal.returns
returns c =
    view-Array c.loop-entry.values
    ∙ ap (λ ds. array (items_of ds))
    (all-made (λ e. string (printed_entry c.args.test.now e)) c.args.order.now c.loop-entry.entry-index
    (map view c.loop-entry.values.items) c.loop-entry-test.false c.loop-entry.invariant)
