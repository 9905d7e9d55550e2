-- How long a report may be: whatever a run of the largest test can leave has room in it.
use Rattle.std.specs.Prelude.{ℕ, ◌*◌, ◌-◌, ◌<◌, ◌≤◌, ◌^◌, length, All}
use Rattle.tso_terms.specs.Limits.{most_cores, most_instructions}
use Rattle.tso_terms.specs.Litmus.{Litmus}
use Rattle.tso_terms.specs.Registers.{IsWord, AreRegisters}
use Rattle.order_builder.specs.Spelling.{IsOrderFor}
use Rattle.multiprocessor.specs.Keeping.{IsAtMost}
use Rattle.tso_report.specs.Shown.{ShownRun}

-- maximum length of a report, in bytes
abbrev pub longest_report : ℕ
longest_report = 32768

-- maximum length of an order that a run of a test leaves, in entries: a locked instruction has two
abbrev pub most_entries : ℕ
most_entries = 2 * (most_instructions * most_cores)

-- no more is shown than a run of the test can leave
pub record IsSmall (t : Litmus) (s : ShownRun) : Type 0 where
  pub entries : length s.order ≤ most_entries
  pub order : IsOrderFor t s.order
  pub cores : length s.registers ≤ most_cores
  pub registers : All AreRegisters s.registers
  pub memory : All IsWord s.memory
  pub used : s.used < 2 ^ 64
  pub stalled : s.stalled < 2 ^ 64
  pub unused : s.unused < 2 ^ 64
  pub caches : length s.counts ≤ most_cores
  pub counts : All (IsAtMost (2 ^ 32 - 1)) s.counts
