use Rattle.search_report.proofs.Vocabulary.{◌≡◌, ◌++◌, drop, string_bytes, filter, codes, flat_map, writes_to, Entry, printed_entry}
use Rattle.search_report.proofs.contents_as_text.write_writes.Given as goal

abbrev pub invariant-loop-entry : goal.invariant-loop-entry
invariant-loop-entry l =
    string_bytes l.text ++ flat_map (λ (v : Entry). codes " " ++ printed_entry l.test v) (filter (writes_to l.loc.0) (drop l.entry-index l.order))
    ≡ string_bytes l.initial.text ++ flat_map (λ (v : Entry). codes " " ++ printed_entry l.test v) (filter (writes_to l.loc.0) l.order)
