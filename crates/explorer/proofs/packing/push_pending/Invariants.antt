use Rattle.explorer.proofs.Vocabulary.{take, Packs, entry_bytes, all_bytes, read_entry, read_all}
use Rattle.explorer.proofs.packing.push_pending.Given as goal

abbrev pub invariant-loop-entry : goal.invariant-loop-entry
invariant-loop-entry l = Packs (all_bytes entry_bytes) (read_all read_entry l.entry-index) (take l.entry-index l.pending) l.initial.bytes.items l.bytes.items
