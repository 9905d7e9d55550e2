use Rattle.explorer.proofs.Vocabulary.{◌≡◌, map, length, renamed, exchanged_entry, core_of_processor}
use Rattle.explorer.proofs.Mapping.{IsMapping}
use Rattle.explorer.proofs.exchange.exchange.Given as goal

abbrev pub invariant-loop-core : goal.invariant-loop-core
invariant-loop-core l = record {
  memory : l.state.memory ≡ l.fn.state.memory;
  count : length l.state.cores.items ≡ length l.fn.state.cores.items;
  mapped : IsMapping (renamed l.pair) (map core_of_processor l.fn.state.cores.items) (map core_of_processor l.state.cores.items) l.core;
}

abbrev pub invariant-loop-at : goal.invariant-loop-at
invariant-loop-at l = IsMapping (exchanged_entry l.pair) l.initial.pending.items l.pending.items l.at
