-- What is counted of a run, by the steps of its trace: a core's hits are its steps of which the access was a hit, and so on.
use Rattle.std.specs.Prelude.{ℕ, ◌≡◌, ◌+◌, ◌<◌, ◌==◌, Bool, true, false, if◌then◌else◌, List, [], ◌∷◌, length, Option, Some, None, is_some, slice_index_or}
use Rattle.tso_terms.specs.FlatMachine.{chosen}
use Rattle.tso_terms.specs.Litmus.{IsTest, Litmus}
use Rattle.basic_laws.specs.Types.{Choice}
use Rattle.protocol_tables.specs.Tables.{table_of}
use Rattle.protocol_tables.specs.declared.kind.ProtocolKind.{ProtocolKind}
use Rattle.protocol_tables.specs.declared.requests.Request.{Request}
use Rattle.protocol_tables.specs.declared.requests.Request.TheVariants.{GetM, GetS}
use Rattle.protocol_tables.specs.declared.state.State.TheVariants.{I}
use Rattle.snoop_bus.specs.declared.access.AccessKind.{AccessKind}
use Rattle.snoop_bus.specs.declared.access.AccessKind.TheVariants.{Hit, Miss, Upgrade}
use Rattle.multiprocessor.specs.Configuration.{Configuration}
use Rattle.multiprocessor.specs.Statistics.{no_counts}
use Rattle.multiprocessor.specs.declared.counts.Counts.{Counts}
use Rattle.machine_runs.specs.Runs.{counts_under}
use Rattle.trace_report.specs.Shown.{ShownStep}
use Rattle.trace_report.specs.Steps.{trace_under}
use Rattle.trace_report.specs.declared.step.LineRequest.{LineRequest}
use Rattle.trace_report.specs.declared.step.LineState.{LineState}
use Rattle.trace_report.specs.declared.step.LineState.TheVariants.{Stable}
use Rattle.trace_report.specs.declared.step.StateChange.{StateChange}
use Rattle.cache_counts.specs.Traffic.{traffic_of}
use Rattle.cache_counts.specs.Uses.{uses_of}
use Rattle.cache_counts.specs.declared.traffic.Traffic.{Traffic}

-- over the core's steps, the sum of what each comes to
abbrev pub sum_of_steps : (ShownStep → ℕ) → ℕ → List ShownStep → ℕ
sum_of_steps of_step core [] = 0
sum_of_steps of_step core (s ∷ ss) = (if chosen s.choice == core then of_step s else 0) + sum_of_steps of_step core ss

-- how many of these steps are the core's and pass a test
abbrev pub steps_of_core : (ShownStep → Bool) → ℕ → List ShownStep → ℕ
steps_of_core test core steps = sum_of_steps (λ s. if test s then 1 else 0) core steps

-- what an access was
abbrev pub was_hit : Option AccessKind → Bool
was_hit None = false
was_hit (Some Hit) = true
was_hit (Some Upgrade) = false
was_hit (Some Miss) = false

abbrev pub was_upgrade : Option AccessKind → Bool
was_upgrade None = false
was_upgrade (Some Hit) = false
was_upgrade (Some Upgrade) = true
was_upgrade (Some Miss) = false

abbrev pub was_miss : Option AccessKind → Bool
was_miss None = false
was_miss (Some Hit) = false
was_miss (Some Upgrade) = false
was_miss (Some Miss) = true

-- what was asked for on the bus
abbrev pub reads_line : Request → Bool
reads_line GetS = true
reads_line GetM = false

abbrev pub writes_line : Request → Bool
writes_line GetS = false
writes_line GetM = true

abbrev pub has_request : (Request → Bool) → Option LineRequest → Bool
has_request test None = false
has_request test (Some q) = test q.request

-- a core's counts and its requests are the numbers of its steps of which the trace says so
pub record SumsOfSteps (core : ℕ) (steps : List ShownStep) (c : Counts) (x : Traffic) : Type 0 where
  pub hits : c.hits ≡ steps_of_core (λ s. was_hit s.access) core steps
  pub misses : c.misses ≡ steps_of_core (λ s. was_miss s.access) core steps
  pub upgrades : c.upgrades ≡ steps_of_core (λ s. was_upgrade s.access) core steps
  pub forwards : c.forwards ≡ steps_of_core (λ s. s.forwarded) core steps
  pub get_s : x.get_s ≡ steps_of_core (λ s. has_request reads_line s.request) core steps
  pub get_m : x.get_m ≡ steps_of_core (λ s. has_request writes_line s.request) core steps

-- this is so of each core in each run, whether it ended or not
abbrev pub CountsAreSumsOfSteps : Type 0
CountsAreSumsOfSteps =
    (t : Litmus) (kind : ProtocolKind) (c : Configuration) (choices : List Choice) (core : ℕ) → core < length t.programs
    → SumsOfSteps core (trace_under t kind c choices) (slice_index_or (counts_under t kind c choices) core no_counts)
    (traffic_of (table_of kind) core (uses_of (table_of kind) c t choices))

-- ---- what its requests turn to I, and what is written to memory for it

-- the state of a line of which there is no copy
abbrev pub is_gone : LineState → Bool
is_gone (Stable I) = true
is_gone _ = false

-- how many of these changes turn to I a line of another core than this one
abbrev pub lost_by_others : ℕ → List StateChange → ℕ
lost_by_others core [] = 0
lost_by_others core (c ∷ cs) = (if c.core.0 == core then 0 else if is_gone c.after then 1 else 0) + lost_by_others core cs

-- the copies of others that a core's requests turn to I are the lines of other cores that its steps tell to go to I. The lines that are
-- written to memory for it are its steps that tell a copy of another core as sent there, and those that tell a write-back
pub record TrafficOfSteps (core : ℕ) (steps : List ShownStep) (x : Traffic) : Type 0 where
  pub invalidations : x.invalidations ≡ sum_of_steps (λ s. lost_by_others core s.changes) core steps
  pub to_memory : x.to_memory ≡ steps_of_core (λ s. is_some s.flushed) core steps + steps_of_core (λ s. is_some s.wrote_back) core steps

-- this is so of each core in each run of a test within the limits, on lines of a word at least, whether it ended or not
abbrev pub TrafficIsSumsOfSteps : Type 0
TrafficIsSumsOfSteps =
    (t : Litmus) (kind : ProtocolKind) (c : Configuration) (choices : List Choice) (core : ℕ) → IsTest t → 0 < c.shape.words → core < length t.programs
    → TrafficOfSteps core (trace_under t kind c choices) (traffic_of (table_of kind) core (uses_of (table_of kind) c t choices))
