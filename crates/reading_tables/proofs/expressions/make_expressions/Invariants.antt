use Rattle.reading_tables.proofs.Vocabulary.{ℕ, ◌≡◌, ◌<◌, ◌++◌, [], length, drop, slice_index_or, map}
use Rattle.possible_reads.specs.Expressions.{written_from, registers_at_end, first_registers}
use Rattle.reading_tables.specs.declared.expressions.Written.{Written}
use Rattle.reading_tables.specs.inner.Told.{held_of, written_of, all_made, HaveBeenMade}
use Rattle.reading_tables.proofs.expressions.make_expressions.Given as goal

abbrev pub invariant-loop-number : goal.invariant-loop-number
invariant-loop-number l = record {
  written : written_from 0 l.test.programs l.test.registers
      ≡ map (written_of (all_made l.makings.items)) l.written.items ++ written_from l.number (drop l.number l.test.programs) l.test.registers;
  made : HaveBeenMade (length l.makings.items) (map (λ (x : Written). x.value) l.written.items);
  count : length l.registers.items ≡ l.number;
  each : (core : ℕ) → core < l.number → map (held_of (all_made l.makings.items)) (slice_index_or l.registers.items core [])
      ≡ registers_at_end core 0 (slice_index_or l.test.programs core []) (first_registers l.test.registers core);
  inside : (core : ℕ) → core < l.number → HaveBeenMade (length l.makings.items) (slice_index_or l.registers.items core []);
}
