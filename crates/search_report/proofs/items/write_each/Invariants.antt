use Rattle.search_report.proofs.Vocabulary.{◌≡◌, ◌++◌, drop, string_bytes, flat_map}
use Rattle.search_report.proofs.items.write_each.Given as goal

abbrev pub invariant-loop-item : goal.invariant-loop-item
invariant-loop-item g l =
    string_bytes l.text ++ flat_map (λ x. l.before ++ g.T.Written.written l.test x) (drop l.item-index l.items)
    ≡ string_bytes l.initial.text ++ flat_map (λ x. l.before ++ g.T.Written.written l.test x) l.items
