use Rattle.flat_machine.proofs.Vocabulary.{◌≡◌, take, map, length, core_of_processor}
use Rattle.flat_machine.proofs.snapshot.overwrite.Given as goal

abbrev pub invariant-loop-at : goal.invariant-loop-at
invariant-loop-at l = record {
  count : length l.state.cores.items ≡ length l.other.cores.items;
  memory : l.state.memory.items ≡ l.other.memory.items;
  cores : map core_of_processor (take l.at l.state.cores.items) ≡ map core_of_processor (take l.at l.other.cores.items);
}
