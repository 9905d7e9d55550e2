use Rattle.tso_report.proofs.Vocabulary.{◌≡◌, ◌++◌, drop, map, string, view, printed_entry}
use Rattle.tso_report.proofs.json.order_value.Given as goal

abbrev pub invariant-loop-entry : goal.invariant-loop-entry
invariant-loop-entry l =
    map view l.values.items ++ map (λ e. string (printed_entry l.test e)) (drop l.entry-index l.order)
    ≡ map (λ e. string (printed_entry l.test e)) l.initial.order
