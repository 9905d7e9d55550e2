use Rattle.order_builder.proofs.Vocabulary.{◌≡◌, ◌∷◌, [], length, ap, rules, ◌∙◌, ◌++◌, string_bytes, printed_end, printed_order}
use Rattle.order_builder.proofs.PrintLemmas.{written_order}
use Rattle.order_builder.proofs.printing.write_order.Goals as goal

pub returns-clause-text : goal.returns-clause-text
returns-clause-text c =
    let ended : string_bytes c.writeln.new.self
    ≡ string_bytes c.write_entries.new.text ++ (printed_end (length c.as_slice-order.result.now) ++ 10 ∷ []) =
    search rules in
    written_order c.args.test.now c.as_slice-order.result.now _ _ _ _ c.in_ok-push_str.ensures.bytes c.in_ok-write_entries.ensures.text ended
    ∙ ap (λ order. string_bytes c.args.text.now ++ printed_order c.args.test.now order) c.as_slice-order.ensures.value
