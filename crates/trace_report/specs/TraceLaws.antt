-- What a trace says of its run, as laws: its commits are the run's order, its stalls and accesses the run's counts. A trace
-- that told of another run than the report would break one of them.
use Rattle.std.specs.Prelude.{ℕ, ◌+◌, ◌≡◌, ◌≢◌, ◌<◌, ◌==◌, ◌&&◌, Bool, true, false, if◌then◌else◌, List, [], ◌∷◌, ◌++◌, length, map, Option}
use Rattle.std.specs.Prelude.{Some, None, is_some, slice_index_or, All, Contains}
use Rattle.tso_terms.specs.Litmus.{Litmus, IsTest}
use Rattle.tso_terms.specs.FlatMachine.{chosen}
use Rattle.tso_terms.specs.Runs.{Run, CoresExist, run, stall_count}
use Rattle.tso_terms.specs.EitherBus.{run_on}
use Rattle.tso_terms.specs.Together.{put_together, together}
use Rattle.basic_laws.specs.Types.{Atomic, Core, Choice, Outcome, Committed, Buffered, Moved, Asked, Stalled, Entry}
use Rattle.protocol_tables.specs.Tables.{Table, table_of}
use Rattle.protocol_tables.specs.declared.kind.ProtocolKind.{ProtocolKind}
use Rattle.protocol_tables.specs.declared.state.State.{State}
use Rattle.protocol_tables.specs.declared.state.State.TheVariants.{I}
use Rattle.multiprocessor.specs.Configuration.{Configuration}
use Rattle.snoop_bus.specs.declared.access.AccessKind.{AccessKind}
use Rattle.snoop_bus.specs.declared.access.AccessKind.TheVariants.{Hit, Upgrade, Miss}
use Rattle.multiprocessor.specs.Answered.{answered}
use Rattle.multiprocessor.specs.Statistics.{no_counts, counts_of}
use Rattle.multiprocessor.specs.declared.counts.Counts.{Counts}
use Rattle.machine_core.specs.Running.{Running, machine_after}
use Rattle.trace_report.specs.Shown.{ShownStep}
use Rattle.trace_report.specs.Steps.{trace_step_of, states_of, number_of_state, trace_of}
use Rattle.trace_report.specs.declared.step.StateChange.{StateChange}
use Rattle.trace_report.specs.declared.states.PlacedState.{PlacedState}
use Rattle.tso_terms.specs.declared.choice.Outcome.TheVariants as out

-- ---- the run

-- the entries that a step with this outcome has committed, of those that it names: a store that becomes pending is named too
abbrev pub committed_at : Outcome → List Entry → List Entry
committed_at Committed entries = entries
committed_at Buffered entries = []
committed_at out.Moved entries = []
committed_at Asked entries = []
committed_at (Stalled why) entries = []

-- the entries that the steps have committed, in their order
abbrev pub committed_in : List ShownStep → List Entry
committed_in [] = []
committed_in (s ∷ ss) = committed_at s.outcome s.entries ++ committed_in ss

-- how many of the steps stalled
abbrev pub stalls_in : List ShownStep → ℕ
stalls_in [] = 0
stalls_in (s ∷ ss) = stall_count s.outcome + stalls_in ss

-- the entries that the steps have committed, each load part of a locked instruction put directly before its store part, are the
-- order of the run; the steps are as many as the choices that it used; and as many of them stalled
pub record TellsRun (steps : List ShownStep) (r : Run) : Type 0 where
  pub order : put_together (committed_in steps) ≡ r.commits
  pub used : length steps ≡ r.used
  pub stalled : stalls_in steps ≡ r.stalled

-- the run of a machine of this protocol's table and this configuration, on its bus, with its caches' answers whether an access
-- hits, and the parts of each locked instruction together
abbrev pub run_traced : Table → Configuration → Litmus → List Choice → Run
run_traced table c t choices = together (run_on c.bus t c.depth (answered c.bus table c.shape t c.depth choices)).run

-- a trace tells its run; on the atomic bus that is the flat machine's
pub record TracesTellTheirRuns : Type 0 where
  pub either : (table : Table) (c : Configuration) (t : Litmus) (choices : List Choice)
      → TellsRun (trace_of table c t choices) (run_traced table c t choices)
  pub atomic : (table : Table) (c : Configuration) (t : Litmus) (choices : List Choice)
      → c.bus ≡ Atomic → TellsRun (trace_of table c t choices) (run t c.depth choices)

-- ---- the lines of the caches

-- a line's state once this change is laid in, and the states of all lines once these changes are
abbrev pub is_of : StateChange → PlacedState → Bool
is_of c p = (c.core.0 == p.core.0) && (c.line == p.line)

abbrev pub laid_in : StateChange → PlacedState → PlacedState
laid_in c p = if is_of c p then record { core = p.core; line = p.line; state = c.after } else p

abbrev pub with_changes : List StateChange → List PlacedState → List PlacedState
with_changes [] states = states
with_changes (c ∷ cs) states = with_changes cs (map (laid_in c) states)

-- a change is of one of these lines, which was in the state that it is said to leave, and goes to another
pub record ChangesOne (states : List PlacedState) (c : StateChange) : Type 0 where
  pub was : Contains states (record { core = c.core; line = c.line; state = c.before })
  pub differs : number_of_state c.before ≢ number_of_state c.after

-- the states of all lines before a choice, with the changes that its step tells laid in, are the states after it; and no change
-- is told that isn't one
pub record ChangesLeadFromStatesToStates : Type 0 where
  pub lead : (m : Running) (choice : Choice) → with_changes (trace_step_of m choice).changes (states_of m) ≡ states_of (machine_after m choice)
  pub real : (m : Running) (choice : Choice) → All (ChangesOne (states_of m)) (trace_step_of m choice).changes

-- ---- the accesses

-- what a core's cache counts of this kind of access
abbrev pub count_of_accesses : AccessKind → Counts → ℕ
count_of_accesses Hit n = n.hits
count_of_accesses Miss n = n.misses
count_of_accesses Upgrade n = n.upgrades

-- the two kinds are one
abbrev pub is_kind : AccessKind → AccessKind → Bool
is_kind Hit Hit = true
is_kind Miss Miss = true
is_kind Upgrade Upgrade = true
is_kind _ _ = false

abbrev pub is_access_of_kind : AccessKind → Option AccessKind → Bool
is_access_of_kind kind None = false
is_access_of_kind kind (Some k) = is_kind kind k

-- whether a step tells an access of this kind to this core's cache, and whether it tells that the core's own stores answered it
abbrev pub tells_access : AccessKind → ℕ → ShownStep → Bool
tells_access kind core s = (chosen s.choice == core) && is_access_of_kind kind s.access

abbrev pub tells_forward : ℕ → ShownStep → Bool
tells_forward core s = (chosen s.choice == core) && s.forwarded

abbrev pub one_if : Bool → ℕ
one_if true = 1
one_if false = 0

-- how many of the steps are such
abbrev pub steps_that : (ShownStep → Bool) → List ShownStep → ℕ
steps_that test [] = 0
steps_that test (s ∷ ss) = one_if (test s) + steps_that test ss

-- whether a step tells that a dirty line of this core's cache is written back
abbrev pub tells_write_back : ℕ → ShownStep → Bool
tells_write_back core s = (chosen s.choice == core) && is_some s.wrote_back

-- whether a step tells that a copy in this core's cache is sent to memory
abbrev pub is_sender : ℕ → Option Core → Bool
is_sender core None = false
is_sender core (Some sender) = sender.0 == core

abbrev pub tells_flush : ℕ → ShownStep → Bool
tells_flush core s = is_sender core s.flushed

-- a protocol under which no core's read or write leaves its copy in I, the state that says that there is none
pub record KeepsNoCopyInI (table : Table) : Type 0 where
  pub filled : (shared : Bool) → table.filled shared ≢ I
  pub written : (state : State) → table.written state ≢ Some I

-- each of the protocols is one
abbrev pub ProtocolsKeepNoCopyInI : Type 0
ProtocolsKeepNoCopyInI = (kind : ProtocolKind) → KeepsNoCopyInI (table_of kind)

-- what the steps tell of this core's cache is what is counted of it: its hits, misses and upgrades, the loads that the core's own
-- pending stores answered, and of a test within the limits, on lines of a word at least, its write-backs; and once the test has
-- ended its flushes. (On a split bus a flush is told where the line is asked for, and counted where the access is made.)
pub record AreTold (table : Table) (c : Configuration) (t : Litmus) (core : ℕ) (steps : List ShownStep) (ended : Bool) (n : Counts) : Type 0 where
  pub accesses : (kind : AccessKind) → steps_that (tells_access kind core) steps ≡ count_of_accesses kind n
  pub forwards : steps_that (tells_forward core) steps ≡ n.forwards
  pub write_backs : IsTest t → 0 < c.shape.words → KeepsNoCopyInI table → steps_that (tells_write_back core) steps ≡ n.write_backs
  pub flushes : ended ≡ true → steps_that (tells_flush core) steps ≡ n.flushes

-- this is so of each core in the trace of a run
abbrev pub AccessesAreTold : Type 0
AccessesAreTold =
    (table : Table) (c : Configuration) (t : Litmus) (choices : List Choice) (core : ℕ) → CoresExist (length t.programs) choices
    → AreTold table c t core (trace_of table c t choices) (run_traced table c t choices).ended
    (slice_index_or (counts_of c.bus table c.shape t c.depth choices) core no_counts)
