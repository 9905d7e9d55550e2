-- What a report shows of a run. Both forms, lines and JSON, are functions of this, so they can't disagree.
use Rattle.std.specs.Prelude.{ℕ, ◌≡◌, Bool, List, length, Option, is_some, All}
use Rattle.tso_terms.specs.Litmus.{Litmus}
use Rattle.tso_terms.specs.declared.execution.Entry.{Entry}
use Rattle.order_builder.specs.PrintedOrder.{HasLocation}
use Rattle.multiprocessor.specs.declared.counts.Counts.{Counts}
use Rattle.tso_report.specs.declared.run.Run.{Run}

-- the order, the registers of each core, the words, the verdict, the counts of choices, and those of each core's cache
pub record ShownRun : Type 0 where
  pub order : List Entry
  pub registers : List (List ℕ)
  pub memory : List ℕ
  pub holds : Option Bool
  pub used : ℕ
  pub stalled : ℕ
  pub unused : ℕ
  pub counts : List Counts

abbrev pub shown_run : Run → ShownRun
shown_run r = record {
  order = r.left.execution.order.items;
  registers = r.left.state.registers.items;
  memory = r.left.state.memory.items;
  holds = r.holds;
  used = r.used;
  stalled = r.stalled;
  unused = r.unused;
  counts = r.left.counts.items;
}

-- a run of this test: registers and counts for each core, a word for each location, a verdict where there is a condition
pub record IsRunOf (t : Litmus) (s : ShownRun) : Type 0 where
  pub locations : All (HasLocation t) s.order
  pub registers : length s.registers ≡ length t.programs
  pub memory : length s.memory ≡ length t.locations
  pub verdict : is_some s.holds ≡ is_some t.condition
  pub counts : length s.counts ≡ length t.programs
