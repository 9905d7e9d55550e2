-- What a step tells of its choice, held against the machine before it and after it: what becomes of the core and of the other
-- caches, and why a choice stalls. (x86-TSO, section 3, for the core; Primer, chapter 7, for the caches.)
use Rattle.std.specs.Prelude.{ℕ, ◌≡◌, ◌≢◌, ◌<◌, ◌≤◌, ◌/◌, true, false, List, [], ◌∷◌, length, Option, Some, None, codes}
use Rattle.tso_terms.specs.Litmus.{Litmus, IsTest}
use Rattle.tso_terms.specs.Actions.{action_of}
use Rattle.tso_terms.specs.Thread.{with_value}
use Rattle.tso_terms.specs.FlatMachine.{State, core_of, chosen, after_choice}
use Rattle.tso_terms.specs.MemoryAccess.{access_of, next_of}
use Rattle.tso_terms.specs.SplitMachine.{Holder, Free, HeldBy, HeldBetween, same_choice, needs_bus}
use Rattle.basic_laws.specs.Types.{Atomic, Split, Core, Loc, Instr, Reg, Operand, Update, Choice, Step, Drain, Stall, Stalled, Entry}
use Rattle.tso_terms.specs.declared.action.Action.TheVariants.{Store, Fence, Lock}
use Rattle.tso_terms.specs.declared.choice.Outcome.TheVariants as out
use Rattle.protocol_tables.specs.Tables.{Table}
use Rattle.protocol_tables.specs.declared.state.State as protocol
use Rattle.snoop_bus.specs.Asks.{tag_at}
use Rattle.cache_set.specs.Tags.{leaving, snooped}
use Rattle.cache_set.specs.CacheTags.{TagSets, tags_at, at_line, sets_of}
use Rattle.cache_set.specs.Requests.{snoop_column}
use Rattle.multiprocessor.specs.Configuration.{Configuration}
use Rattle.multiprocessor.specs.Caches.{at_access}
use Rattle.machine_core.specs.Running.{Running, new_machine, machine_after, attempt_on, table_in}
use Rattle.trace_report.specs.Lines.{stall_name}
use Rattle.trace_report.specs.Steps.{trace_step_of}
use Rattle.trace_report.specs.TraceLaws.{KeepsNoCopyInI}
use Rattle.trace_report.specs.declared.step.LineRequest.{LineRequest}
use Rattle.trace_report.specs.declared.step.Given.{Given}
use Rattle.trace_report.specs.declared.step.Moved.{Moved}
use Rattle.trace_report.specs.declared.step.Moved.TheVariants.{One, Both}

-- ---- the core

-- the registers once this one was given its value
abbrev pub with_given : List ℕ → Given → List ℕ
with_given registers g = with_value registers g.reg g.value

-- the registers once values were moved, and the pending stores once these are there
abbrev pub with_moved : Option Moved → List ℕ → List ℕ
with_moved None registers = registers
with_moved (Some (One g)) registers = with_given registers g
with_moved (Some (Both g h)) registers = with_given (with_given registers g) h

abbrev pub pending_told : Option (List Entry) → List Entry → List Entry
pending_told None pending = pending
pending_told (Some stores) pending = stores

-- the registers that a step tells have the values that it tells, and no others have changed, and none is told but where the core
-- moved; the stores that a step tells are pending then, and where it tells none the same as before are. On the atomic bus that
-- is the flat machine's core
pub record CoresAreTold (m : Running) (choice : Choice) : Type 0 where
  pub moved : (trace_step_of m choice).outcome ≡ out.Moved → (core_of (machine_after m choice).state.flat (chosen choice)).registers
      ≡ with_moved (trace_step_of m choice).moved (core_of m.state.flat (chosen choice)).registers
  pub unmoved : (trace_step_of m choice).outcome ≢ out.Moved → (trace_step_of m choice).moved ≡ None
  pub buffer : (core_of (machine_after m choice).state.flat (chosen choice)).pending
      ≡ pending_told (trace_step_of m choice).buffer (core_of m.state.flat (chosen choice)).pending
  pub flat : m.bus ≡ Atomic → (machine_after m choice).state.flat ≡ after_choice m.test m.depth m.state.flat choice

-- ---- stalls

-- why a choice stalls on the flat machine, by the word that is told: at the end of the program; a store that finds as many
-- pending as the buffer holds; a fence or a locked instruction with a store pending; a drain with none
pub data IsWordOfStall (t : Litmus) (depth : ℕ) (state : State) : List ℕ → Choice → Type 0 where
  done : (core : Core) → next_of t state core.0 ≡ None → IsWordOfStall t depth state (codes "Done") (Step core)
  full : (core : Core) (i : Instr) (loc : Loc) (operand : Operand) → next_of t state core.0 ≡ Some i → action_of i ≡ Store loc operand
      → depth ≤ length (core_of state core.0).pending → IsWordOfStall t depth state (codes "Full") (Step core)
  fence : (core : Core) (i : Instr) → next_of t state core.0 ≡ Some i → action_of i ≡ Fence
      → (core_of state core.0).pending ≢ [] → IsWordOfStall t depth state (codes "Fence") (Step core)
  lock : (core : Core) (i : Instr) (loc : Loc) (reg : Option Reg) (update : Update) → next_of t state core.0 ≡ Some i → action_of i ≡ Lock loc reg update
      → (core_of state core.0).pending ≢ [] → IsWordOfStall t depth state (codes "Lock") (Step core)
  empty : (core : Core) → (core_of state core.0).pending ≡ [] → IsWordOfStall t depth state (codes "Empty") (Drain core)

-- another action than this choice's holds the bus
abbrev pub IsHeldByOther : Holder → Choice → Type 0
IsHeldByOther Free choice = ⊥
IsHeldByOther (HeldBy other) choice = same_choice other choice ≡ false
IsHeldByOther (HeldBetween e) choice = same_choice (Step e.core) choice ≡ false

-- and on a split bus: one whose access needs the bus, while another action holds it
pub data IsWordOfStallOn (m : Running) (choice : Choice) : List ℕ → Type 0 where
  flat : (word : List ℕ) → IsWordOfStall m.test m.depth m.state.flat word choice → IsWordOfStallOn m choice word
  bus : m.bus ≡ Split → IsHeldByOther m.state.holder choice
      → needs_bus (access_of m.test m.depth m.state.flat choice) (attempt_on m choice).hits ≡ true → IsWordOfStallOn m choice (codes "Bus")

-- the word of each stall is its reason
abbrev pub StallsAreTold : Running → Choice → Type 0
StallsAreTold m choice = (why : Stall) → (trace_step_of m choice).outcome ≡ Stalled why → IsWordOfStallOn m choice (stall_name why)

-- ---- the other caches

-- a core's sets once it saw this request, if there is one
abbrev pub with_seen : Table → Option LineRequest → TagSets → TagSets
with_seen table None sets = sets
with_seen table (Some r) sets = at_line r.line (snooped (snoop_column table r.request) r.line) sets

-- the request and the line that a step tells are those by which the copies of the other cores change, and none changes otherwise
abbrev pub OthersSeeTheRequest : Running → Choice → Type 0
OthersSeeTheRequest m choice =
    (core : ℕ) → core ≢ chosen choice
    → sets_of (machine_after m choice).statistics.caches.contents core
    ≡ with_seen (table_in m) (trace_step_of m choice).request (sets_of m.statistics.caches.contents core)

-- ---- write-backs

-- the line that is told is the one that gave way: another came into its set, in which this one was the last of as many as there
-- may be, and dirty
pub record GaveWay (m : Running) (choice : Choice) (line : ℕ) : Type 0 where
  pub came : ℕ
  pub state : protocol.State
  pub accessed : at_access None (λ loc write. Some (loc.0 / m.statistics.caches.shape.words)) (access_of m.test m.depth m.state.flat choice) ≡ Some came
  pub absent : tag_at (chosen choice) came m.statistics.caches.contents ≡ None
  pub last : leaving (tags_at (sets_of m.statistics.caches.contents (chosen choice)) came) ≡ Some (line, state)
  pub dirty : (table_in m).evicts_dirty state ≡ true

abbrev pub WriteBacksAreTold : Running → Choice → Type 0
WriteBacksAreTold m choice = (line : ℕ) → (trace_step_of m choice).wrote_back ≡ Some line → GaveWay m choice line

-- ---- in each machine that choices of a test lead to

-- a machine once it has made these choices
abbrev pub after_choices : Running → List Choice → Running
after_choices m [] = m
after_choices m (c ∷ cs) = after_choices (machine_after m c) cs

pub record StepsAreTold : Type 0 where
  pub cores : (m : Running) (choice : Choice) → CoresAreTold m choice
  pub stalls : (m : Running) (choice : Choice) → StallsAreTold m choice
  pub others : (table : Table) (c : Configuration) (t : Litmus) (choices : List Choice) (choice : Choice)
      → OthersSeeTheRequest (after_choices (new_machine table c t) choices) choice
  pub write_backs : (table : Table) (c : Configuration) (t : Litmus) (choices : List Choice) (choice : Choice)
      → IsTest t → 0 < c.shape.words → KeepsNoCopyInI table → chosen choice < length t.programs
      → WriteBacksAreTold (after_choices (new_machine table c t) choices) choice
