use Rattle.machine_core.proofs.Vocabulary.{◌≡◌, ℕ, ◌++◌, All, drop, length, started, core_states, IsCore}
use Rattle.machine_core.proofs.hardware.processors_of.Given as goal

abbrev pub invariant-loop-core : goal.invariant-loop-core
invariant-loop-core l = record {
  states : core_states 0 l.processors.items ++ started l.core (drop l.core l.test.programs) l.test.registers ≡ started 0 l.test.programs l.test.registers;
  depths : (locations : ℕ) → All (IsCore l.depth locations) l.processors.items;
  size : length l.processors.items ≡ l.core;
}
