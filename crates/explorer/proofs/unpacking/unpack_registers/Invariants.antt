use Rattle.explorer.proofs.Vocabulary.{◌≡◌, take, length, read_word, read_all}
use Rattle.explorer.proofs.unpacking.unpack_registers.Given as goal

abbrev pub invariant-loop-at : goal.invariant-loop-at
invariant-loop-at l = record {
  read : read_all read_word l.at l.bytes ≡ (take l.at l.registers, l.rest);
  count : length l.registers ≡ 6;
}
