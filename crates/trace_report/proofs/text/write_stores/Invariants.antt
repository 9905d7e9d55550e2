use Rattle.trace_report.proofs.Vocabulary.{◌≡◌, ◌++◌, drop, string_bytes}
use Rattle.trace_report.specs.Lines.{stores_text}
use Rattle.trace_report.proofs.Writing.{stores_from}
use Rattle.trace_report.proofs.text.write_stores.Given as goal

abbrev pub invariant-loop-at : goal.invariant-loop-at
invariant-loop-at l =
    string_bytes l.text ++ stores_from l.test l.at (drop l.at l.stores) ≡ string_bytes l.initial.text ++ stores_text l.test l.stores
