-- What the answers tell of values, as the code keeps it.
use Rattle.std.specs.Prelude.{ℕ, ◌≡◌, ◌<◌, [], length, slice_index_or}
use Rattle.tso_terms.specs.Litmus.{Litmus}
use Rattle.refutation_laws.specs.Known.{Known}
use Rattle.refutation_laws.specs.Values.{returned, all_known, left_of, known_first_registers}
use Rattle.refutations.specs.declared.facts.Facts.{Facts}

pub record AreFacts (t : Litmus) (k : Known) (f : Facts) : Type 0 where
  -- the writes whose values are known
  pub writes : f.writes.items ≡ all_known t k
  pub count : length f.registers.items ≡ length t.programs
  -- the registers of each core at the end
  pub registers : (core : ℕ) → core < length t.programs → slice_index_or f.registers.items core []
      ≡ left_of (returned t (all_known t k) k.sources) core 0 (slice_index_or t.programs core []) (known_first_registers t.registers core)
