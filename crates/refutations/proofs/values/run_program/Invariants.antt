use Rattle.refutations.proofs.Vocabulary.{◌≡◌, ◌++◌, drop, writes_of, left_of, returned}
use Rattle.refutations.proofs.values.run_program.Given as goal

-- what is done and what is left are the whole
abbrev pub invariant-loop-instr : goal.invariant-loop-instr
invariant-loop-instr l = record {
  place : l.place ≡ l.instr-index;
  writes : l.fn.walk.writes.items ++ writes_of (returned l.reads.test.now l.reads.writes.now l.reads.sources.now) l.core.0 0 l.instr-items l.fn.walk.registers
      ≡ l.walk.writes.items
      ++ writes_of (returned l.reads.test.now l.reads.writes.now l.reads.sources.now) l.core.0 l.place
      (drop l.instr-index l.instr-items) l.walk.registers;
  registers : left_of (returned l.reads.test.now l.reads.writes.now l.reads.sources.now) l.core.0 0 l.instr-items l.fn.walk.registers
      ≡ left_of (returned l.reads.test.now l.reads.writes.now l.reads.sources.now) l.core.0 l.place (drop l.instr-index l.instr-items) l.walk.registers;
}
