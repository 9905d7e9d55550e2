use Rattle.refutations.proofs.Vocabulary.{ℕ, ◌≡◌, ◌<◌, ◌++◌, [], length, drop, slice_index_or, writes_from, returned, left_of, known_first_registers}
use Rattle.refutations.proofs.facts.run_all.Given as goal

abbrev pub invariant-loop-number : goal.invariant-loop-number
invariant-loop-number l = record {
  writes : writes_from (returned l.test l.before l.sources) 0 l.test.programs l.test.registers
      ≡ l.writes.items ++ writes_from (returned l.test l.before l.sources) l.number (drop l.number l.test.programs) l.test.registers;
  count : length l.registers.items ≡ l.number;
  each : (core : ℕ) → core < l.number → slice_index_or l.registers.items core []
      ≡ left_of (returned l.test l.before l.sources) core 0 (slice_index_or l.test.programs core [])
      (known_first_registers l.test.registers core);
}
