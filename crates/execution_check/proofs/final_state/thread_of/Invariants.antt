use Rattle.std.proofs.Common.{◌≡◌, ◌++◌, drop}
use Rattle.tso_terms.specs.ProgramEntries.{read_values}
use Rattle.execution_check.proofs.final_state.thread_of.Given as goal

-- what is done and what is left are the whole
abbrev pub invariant-loop-instr : goal.invariant-loop-instr
invariant-loop-instr l = record {
  place : l.place ≡ l.instr-index;
  values : read_values l.core.0 0 l.instr-items l.order ≡ l.values.items ++ read_values l.core.0 l.place (drop l.instr-index l.instr-items) l.order;
}
