use Rattle.explorer.proofs.Vocabulary.{◌≡◌, take, map, length, core_of_processor, read_core, read_all}
use Rattle.explorer.proofs.unpacking.unpack.Given as goal

abbrev pub invariant-loop-at : goal.invariant-loop-at
invariant-loop-at l = record {
  memory : l.state.memory ≡ l.initial.state.memory;
  read : read_all read_core l.at l.initial.rest ≡ (map core_of_processor (take l.at l.state.cores.items), l.rest);
  count : length l.state.cores.items ≡ length l.initial.state.cores.items;
}
