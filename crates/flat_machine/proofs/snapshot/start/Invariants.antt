use Rattle.flat_machine.proofs.Vocabulary.{◌≡◌, take, map, length, started, core_of_processor}
use Rattle.flat_machine.proofs.snapshot.start.Given as goal

abbrev pub invariant-loop-word : goal.invariant-loop-word
invariant-loop-word l = l.memory.items ≡ take l.word-index l.test.words

abbrev pub invariant-loop-core : goal.invariant-loop-core
invariant-loop-core l = record {
  memory : l.memory.items ≡ l.test.words;
  cores : map core_of_processor l.cores.items ≡ started 0 (take l.core l.test.programs) l.test.registers;
  count : length l.cores.items ≡ l.core;
}
