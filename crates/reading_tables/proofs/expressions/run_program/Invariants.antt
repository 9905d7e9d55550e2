use Rattle.reading_tables.proofs.Vocabulary.{◌≡◌, ◌++◌, drop}
use Rattle.possible_reads.specs.Expressions.{written_in, registers_at_end}
use Rattle.reading_tables.specs.inner.Told.{IsWalk, IsMore, held_registers, told_writes}
use Rattle.reading_tables.proofs.expressions.run_program.Given as goal

-- what is done and what is left are the whole
abbrev pub invariant-loop-instr : goal.invariant-loop-instr
invariant-loop-instr l = record {
  place : l.place ≡ l.instr-index;
  walk : IsWalk l.walk;
  more : IsMore l.fn.walk.makings.items l.walk.makings.items;
  written : told_writes l.fn.walk ++ written_in l.core.0 0 l.instr-items (held_registers l.fn.walk)
      ≡ told_writes l.walk ++ written_in l.core.0 l.place (drop l.instr-index l.instr-items) (held_registers l.walk);
  registers : registers_at_end l.core.0 0 l.instr-items (held_registers l.fn.walk)
      ≡ registers_at_end l.core.0 l.place (drop l.instr-index l.instr-items) (held_registers l.walk);
}
