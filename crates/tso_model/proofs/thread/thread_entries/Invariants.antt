use Rattle.std.proofs.Common.{◌≡◌, ◌++◌, length, drop, slice_index_or, []}
use Rattle.tso_terms.specs.Thread.{entries_of, registers_after, reads_in}
use Rattle.tso_model.proofs.thread.thread_entries.Given as goal

-- what is done and what is left make the whole thread
abbrev pub invariant-loop-instr : goal.invariant-loop-instr
invariant-loop-instr l = record {
  place : l.place ≡ l.instr-index;
  reads : length l.left ≡ reads_in (drop l.instr-index l.instr-items);
  entries : entries_of l.core.0 0 l.instr-items (slice_index_or l.test.registers l.core.0 []) l.reads
      ≡ l.thread.entries.items ++ entries_of l.core.0 l.place (drop l.instr-index l.instr-items) l.thread.registers l.left;
  registers : registers_after l.instr-items (slice_index_or l.test.registers l.core.0 []) l.reads
      ≡ registers_after (drop l.instr-index l.instr-items) l.thread.registers l.left;
}
