use Rattle.explorer.proofs.Vocabulary.{take, Packs, number_bytes, all_bytes, read_word, read_all}
use Rattle.explorer.proofs.packing.push_words.Given as goal

abbrev pub invariant-loop-word : goal.invariant-loop-word
invariant-loop-word l = Packs (all_bytes number_bytes) (read_all read_word l.word-index) (take l.word-index l.words) l.fn.bytes.items l.bytes.items
