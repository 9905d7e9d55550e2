use Rattle.explorer.proofs.Vocabulary.{◌≡◌, read_word, read_all}
use Rattle.explorer.proofs.unpacking.unpack_memory.Given as goal

abbrev pub invariant-loop-at : goal.invariant-loop-at
invariant-loop-at l = read_all read_word l._at l.initial.rest ≡ (l.memory.items, l.rest)
