use Rattle.explorer.proofs.Vocabulary.{◌≡◌, length, map, core_of_processor}
use Rattle.explorer.proofs.Forgets.{IsForgetting}
use Rattle.explorer.proofs.forgetting.forget.Given as goal

abbrev pub invariant-loop-core : goal.invariant-loop-core
invariant-loop-core l = record {
  count : length l.state.cores.items ≡ length l.fn.state.cores.items;
  memory : l.state.memory.items ≡ l.fn.state.memory.items;
  cores : IsForgetting l.plan.test.now l.plan.hidden.now (map core_of_processor l.fn.state.cores.items) (map core_of_processor l.state.cores.items) l.core;
}
