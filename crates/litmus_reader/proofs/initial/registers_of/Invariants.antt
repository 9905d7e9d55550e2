use Rattle.litmus_reader.proofs.Vocabulary.{◌≡◌, length, drop, map, given_of, registers_with, registers_of}
use Rattle.litmus_reader.proofs.initial.registers_of.Given as goal

abbrev pub invariant-loop-word : goal.invariant-loop-word
invariant-loop-word l = record {
  same : registers_with l.cores l.registers.items (map given_of (drop l.word-index l.given))
      ≡ registers_of l.cores (map given_of l.given);
  each : length l.registers.items ≡ l.cores;
}
