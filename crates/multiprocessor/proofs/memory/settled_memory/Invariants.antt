use Rattle.multiprocessor.proofs.Vocabulary.{◌≡◌, take, words_of, memory_words_of}
use Rattle.multiprocessor.proofs.memory.settled_memory.Given as goal

abbrev pub invariant-loop-location : goal.invariant-loop-location
invariant-loop-location g l = record {
  taken : l.memory.items ≡ take l.location (words_of l.fn.bus);
  settled : memory_words_of l.bus ≡ words_of l.fn.bus;
  seen : words_of l.bus ≡ words_of l.fn.bus;
}
