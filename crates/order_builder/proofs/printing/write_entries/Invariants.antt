use Rattle.order_builder.proofs.Vocabulary.{◌≡◌, ◌++◌, ◌<◌, ℕ, map, drop, length, string_bytes, slice_index_or, Entry, printed_entry, printed_lines, HasWord}
use Rattle.order_builder.proofs.printing.write_entries.Given as goal

abbrev pub invariant-loop-entry : goal.invariant-loop-entry
invariant-loop-entry l =
    (string_bytes l.text ++ printed_lines (map (printed_entry l.test) (drop l.entry-index l.order))
    ≡ string_bytes l.initial.text ++ printed_lines (map (printed_entry l.test) l.order))
    × ((k : ℕ) (d : Entry) → k < l.entry-index → k < length l.order → HasWord (slice_index_or l.order k d))
