use Rattle.std.proofs.Common.{◌≡◌, ◌≤◌, ◌+◌, drop}
use Rattle.tso_terms.specs.Thread.{reads_in}
use Rattle.tso_model.proofs.thread.read_count.Given as goal

-- the reads of what is done and of what is left
abbrev pub invariant-loop-instr : goal.invariant-loop-instr
invariant-loop-instr l = record {
  small : l.count ≤ l.instr-index;
  rest : reads_in l.instr-items ≡ l.count + reads_in (drop l.instr-index l.instr-items);
}
