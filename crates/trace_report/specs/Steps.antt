-- What each choice of a run did. It is told from the machine before the choice, the machine after it, and what the choice had to
-- do with the caches. (This project's profile, after the tables of Primer, chapters 6 and 7.)
use Rattle.std.specs.Prelude.{ℕ, zero, suc, ◌+◌, ◌/◌, ◌==◌, ◌&&◌, nat_lt, Bool, true, false, if◌then◌else◌, List, [], ◌∷◌, ◌++◌, length}
use Rattle.std.specs.Prelude.{drop, slice_get, Option, Some, None}
use Rattle.std.specs.Int.{div_ceil}
use Rattle.tso_terms.specs.Litmus.{Litmus}
use Rattle.tso_terms.specs.Actions.{action_of}
use Rattle.tso_terms.specs.Thread.{value_in}
use Rattle.tso_terms.specs.FlatMachine.{Effect, core_of, program_of, chosen}
use Rattle.tso_terms.specs.Runs.{has_ended}
use Rattle.basic_laws.specs.Types.{Reg, Change, Keep, Set, Swap, Action, Instr, Choice, Step, Drain, Entry}
use Rattle.protocol_tables.specs.Tables.{Table, table_of}
use Rattle.protocol_tables.specs.declared.kind.ProtocolKind.{ProtocolKind}
use Rattle.protocol_tables.specs.declared.state.State.{State}
use Rattle.protocol_tables.specs.declared.requests.Transient.{Transient}
use Rattle.protocol_tables.specs.declared.requests.Transient.TheVariants.{IsD, ImD, SmD}
use Rattle.snoop_bus.specs.Asks.{tag_at, or_invalid}
use Rattle.snoop_bus.specs.declared.access.AccessKind.{AccessKind}
use Rattle.snoop_bus.specs.declared.access.BusRequest.{BusRequest}
use Rattle.snoop_bus.specs.declared.access.Departure.{Departure}
use Rattle.multiprocessor.specs.Configuration.{Configuration}
use Rattle.machine_core.specs.Running.{Running, new_machine, machine_effect, machine_use, machine_after}
use Rattle.machine_core.specs.Looking.{bus_holder_of}
use Rattle.machine_core.specs.declared.looking.BusHolder.{BusHolder}
use Rattle.multiprocessor.specs.declared.accesses.CacheUse.{CacheUse}
use Rattle.multiprocessor.specs.declared.accesses.CacheUse.TheVariants.{Unused, Forwarded, Through}
use Rattle.multiprocessor.specs.declared.accesses.CacheUse.TheVariants as uses
use Rattle.trace_report.specs.Shown.{ShownStep}
use Rattle.trace_report.specs.declared.step.Given.{Given}
use Rattle.trace_report.specs.declared.step.Moved.{Moved}
use Rattle.trace_report.specs.declared.step.Moved.TheVariants.{One, Both}
use Rattle.trace_report.specs.declared.step.LineState.{LineState}
use Rattle.trace_report.specs.declared.step.StateChange.{StateChange}
use Rattle.trace_report.specs.declared.states.PlacedState.{PlacedState}
use Rattle.trace_report.specs.declared.sending.Sent.{Sent}
use Rattle.tso_terms.specs.declared.action.Action.TheVariants as action
use Rattle.protocol_tables.specs.declared.state.State.TheVariants as tag
use Rattle.trace_report.specs.declared.step.LineState.TheVariants as state

-- ---- the entries, the register, the buffer

-- a register, and the value that it has among these
abbrev pub register_given : List ℕ → Reg → Given
register_given registers reg = record { reg = reg; value = value_in registers reg }

-- what a move gave, where these are the registers after it
abbrev pub given_by_move : Change → List ℕ → Option Moved
given_by_move Keep registers = None
given_by_move (Set reg update) registers = Some (One (register_given registers reg))
given_by_move (Swap reg other) registers = Some (Both (register_given registers reg) (register_given registers other))

-- the same of an action, if it is a move
abbrev pub moved_by : Action → List ℕ → Option Moved
moved_by (action.Store loc operand) registers = None
moved_by (action.Load reg loc) registers = None
moved_by (action.Move change) registers = given_by_move change registers
moved_by action.Fence registers = None
moved_by (action.Lock loc reg update) registers = None

-- of the instruction that the core is at
abbrev pub moved_at : Option Instr → List ℕ → Option Moved
moved_at None registers = None
moved_at (Some i) registers = moved_by (action_of i) registers

-- of a choice at this place of its core's program, which left these registers
abbrev pub moved_from : Litmus → ℕ → Choice → List ℕ → Option Moved
moved_from t place (Step core) registers = moved_at (slice_get (program_of t core.0) place) registers
moved_from t place (Drain core) registers = None

-- the pending stores after it, where they aren't as many as before
abbrev pub buffer_if_changed : ℕ → List Entry → Option (List Entry)
buffer_if_changed waited pending = if length pending == waited then None else Some pending

-- ---- the access
abbrev pub is_forwarded : CacheUse → Bool
is_forwarded Unused = false
is_forwarded Forwarded = true
is_forwarded (uses.Asked request) = false
is_forwarded (Through r) = false

-- what the access was, if there was one
abbrev pub access_kind_in : CacheUse → Option AccessKind
access_kind_in Unused = None
access_kind_in Forwarded = None
access_kind_in (uses.Asked request) = None
access_kind_in (Through r) = Some r.access.kind

-- ---- the bus

abbrev pub nothing_sent : Sent
nothing_sent = record { request = None; flushed = None }

-- what goes on the bus and to memory by a request: the request for its line, and the core whose copy is sent there
abbrev pub sent_with : Option BusRequest → Sent
sent_with None = nothing_sent
sent_with (Some q) = record { request = Some (record { request = q.request; line = q.line }); flushed = q.flushed }

-- of a choice, as its access says; on a split bus it is told where it is asked for
abbrev pub sent_by : CacheUse → Sent
sent_by Unused = nothing_sent
sent_by Forwarded = nothing_sent
sent_by (uses.Asked request) = sent_with request
sent_by (Through r) = sent_with r.request

-- ---- the states of lines

-- what a core's copy of a line is in, I where it has none; but while the core has asked for the line and awaits it, the transient
abbrev pub state_with : Option Transient → Option State → LineState
state_with None copy = state.Stable (or_invalid copy)
state_with (Some transient) copy = state.Transient transient

-- what the holder of the bus awaits, if this is its line
abbrev pub awaited_at : Option BusHolder → ℕ → ℕ → ℕ → Option Transient
awaited_at None words core line = None
awaited_at (Some h) words core line = if (chosen h.choice == core) && (h.loc.0 / words == line) then h.transient else None

abbrev pub line_state : Running → ℕ → ℕ → LineState
line_state m core line =
    state_with (awaited_at (bus_holder_of m) m.statistics.caches.shape.words core line) (tag_at core line m.statistics.caches.contents)

abbrev pub placed : Running → ℕ → ℕ → PlacedState
placed m core line = record { core = record { 0 = core }; line = line; state = line_state m core line }

-- those of a core's lines from this number on, so many
abbrev pub line_states : Running → ℕ → ℕ → ℕ → List PlacedState
line_states m core line zero = []
line_states m core line (suc count) = placed m core line ∷ line_states m core (line + 1) count

-- how many lines the locations of the test take
abbrev pub number_of_lines : Running → ℕ
number_of_lines m = div_ceil (length m.test.locations) m.statistics.caches.shape.words

-- those of each core from this number on, so many
abbrev pub placed_states_from : Running → ℕ → ℕ → List PlacedState
placed_states_from m core zero = []
placed_states_from m core (suc count) = line_states m core 0 (number_of_lines m) ++ placed_states_from m (core + 1) count

-- what each line of each core is in, by core and then by line
abbrev pub states_of : Running → List PlacedState
states_of m = placed_states_from m 0 (length m.test.programs)

-- states are told apart by a number of each
abbrev pub number_of_state : LineState → ℕ
number_of_state (state.Stable tag.I) = 0
number_of_state (state.Stable tag.S) = 1
number_of_state (state.Stable tag.E) = 2
number_of_state (state.Stable tag.O) = 3
number_of_state (state.Stable tag.M) = 4
number_of_state (state.Transient IsD) = 5
number_of_state (state.Transient ImD) = 6
number_of_state (state.Transient SmD) = 7

-- a line whose state was this before and is that after, if it changed
abbrev pub change_of : PlacedState → PlacedState → List StateChange
change_of before after =
    if number_of_state before.state == number_of_state after.state
    then []
    else record { core = before.core; line = before.line; before = before.state; after = after.state } ∷ []

-- the lines whose states changed, one after the other
abbrev pub changes_in : List PlacedState → List PlacedState → List StateChange
changes_in [] afters = []
changes_in (before ∷ befores) [] = []
changes_in (before ∷ befores) (after ∷ afters) = change_of before after ++ changes_in befores afters

-- ---- the line that is written back

-- the line that left the core's cache, as its access says
abbrev pub left_in : CacheUse → Option Departure
left_in Unused = None
left_in Forwarded = None
left_in (uses.Asked request) = None
left_in (Through r) = r.left

-- its number, where it was written back
abbrev pub written_line : Option Departure → Option ℕ
written_line None = None
written_line (Some left) = if left.written_back then Some left.line else None

-- a line, if it is one of so many: caches have no others
abbrev pub among : ℕ → Option ℕ → Option ℕ
among lines None = None
among lines (Some line) = if nat_lt line lines then Some line else None

-- ---- the step

-- what a choice did that had this effect and used the caches so, by the machine before it and the machine after it
abbrev pub step_with : Running → Choice → Effect → CacheUse → Running → ShownStep
step_with m choice f how next =
    let before = core_of m.state.flat (chosen choice) in
    let after = core_of next.state.flat (chosen choice) in
    record {
      choice = choice;
      outcome = f.outcome;
      entries = f.commits ++ drop (length before.pending) after.pending;
      moved = moved_from m.test before.place choice after.registers;
      forwarded = is_forwarded how;
      access = access_kind_in how;
      request = (sent_by how).request;
      flushed = (sent_by how).flushed;
      wrote_back = among (number_of_lines m) (written_line (left_in how));
      changes = changes_in (states_of m) (states_of next);
      buffer = buffer_if_changed (length before.pending) after.pending;
    }

-- what a choice on a machine did
unfoldable pub trace_step_of : Running → Choice → ShownStep
trace_step_of m choice = step_with m choice (machine_effect m choice).effect (machine_use m choice).how (machine_after m choice)

-- what each choice did that was used, up to the first moment at which the test had ended
abbrev pub steps_from : Running → List Choice → List ShownStep
steps_from m [] = []
steps_from m (c ∷ cs) = if has_ended m.test m.state.flat then [] else trace_step_of m c ∷ steps_from (machine_after m c) cs

-- the trace of a test's run, by the protocol's table, the configuration and the choices
abbrev pub trace_of : Table → Configuration → Litmus → List Choice → List ShownStep
trace_of table config t choices = steps_from (new_machine table config t) choices

-- the same by the protocol's name
abbrev pub trace_under : Litmus → ProtocolKind → Configuration → List Choice → List ShownStep
trace_under t kind c choices = trace_of (table_of kind) c t choices
