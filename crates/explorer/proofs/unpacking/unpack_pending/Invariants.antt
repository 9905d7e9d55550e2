use Rattle.explorer.proofs.Vocabulary.{◌≡◌, read_entry, read_all}
use Rattle.explorer.proofs.unpacking.unpack_pending.Given as goal

abbrev pub invariant-loop-at : goal.invariant-loop-at
invariant-loop-at l = read_all read_entry l._at l.initial.rest ≡ (l.pending.items, l.rest)
