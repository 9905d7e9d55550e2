-- The flat machine: one memory, and for each core the stores that are pending. One choice acts at a time.
-- (x86-TSO, section 3, the abstract machine; the bounded buffer, the stalls and the locked instruction
-- in one step are this project's profile.)
use Rattle.std.specs.Prelude.{ℕ, ◌+◌, nat_lt, if◌then◌else◌, List, [], ◌∷◌, ◌++◌, map, filter, length, Option, Some, true, false}
use Rattle.std.specs.Prelude.{None, slice_get, slice_index, slice_index_or, slice_set, take, drop, zero, suc, Bool}
use Rattle.tso_terms.specs.Actions.{action_of}
use Rattle.tso_terms.specs.Thread.{entry, fence, value_of, with_value, with_taken, changed, updated}
use Rattle.tso_terms.specs.ProgramOrder.{is_write, writes_to}
use Rattle.tso_terms.specs.Axioms.{last_value}
use Rattle.tso_terms.specs.Litmus.{Litmus}
use Rattle.tso_terms.specs.declared.register.Reg.{Reg}
use Rattle.tso_terms.specs.declared.instruction.Loc.{Loc}
use Rattle.tso_terms.specs.declared.instruction.Instr.{Instr}
use Rattle.tso_terms.specs.declared.action.Action.{Action}
use Rattle.tso_terms.specs.declared.action.Action.TheVariants.{Store, Load, Move, Fence, Lock}
use Rattle.tso_terms.specs.declared.execution.Entry.{Entry}
use Rattle.tso_terms.specs.declared.execution.Kind.TheVariants.{R, W, LR, LW}
use Rattle.tso_terms.specs.declared.choice.Choice.{Choice}
use Rattle.tso_terms.specs.declared.choice.Choice.TheVariants.{Step, Drain}
use Rattle.tso_terms.specs.declared.choice.Stall.{Stall}
use Rattle.tso_terms.specs.declared.choice.Stall.TheVariants as stall
use Rattle.tso_terms.specs.declared.choice.Outcome.{Outcome}
use Rattle.tso_terms.specs.declared.choice.Outcome.TheVariants.{Committed, Buffered, Moved, Stalled}

-- a core: the place in its program, its registers, and its pending stores, oldest first
pub record CoreState : Type 0 where
  pub place : ℕ
  pub registers : List ℕ
  pub pending : List Entry

pub record State : Type 0 where
  pub memory : List ℕ
  pub cores : List CoreState

-- what a choice does: its outcome, its core afterwards, and the entries that it commits
pub record Effect : Type 0 where
  pub outcome : Outcome
  pub after : CoreState
  pub commits : List Entry

abbrev pub is_none_pending : List Entry → Bool
is_none_pending [] = true
is_none_pending (p ∷ ps) = false

abbrev pub stalled : Stall → CoreState → Effect
stalled why s = record { outcome = Stalled why; after = s; commits = [] }

-- the core at its next instruction
abbrev pub advanced : CoreState → CoreState
advanced s = record { place = s.place + 1; registers = s.registers; pending = s.pending }

-- the core at its next instruction, with this value in the register
abbrev pub advanced_with : CoreState → Reg → ℕ → CoreState
advanced_with s reg value = record { place = s.place + 1; registers = with_value s.registers reg value; pending = s.pending }

-- the core at its next instruction, with this word in the register, if there is one
abbrev pub advanced_taking : CoreState → Option Reg → ℕ → CoreState
advanced_taking s target word = record { place = s.place + 1; registers = with_taken s.registers target word; pending = s.pending }

-- a plain store becomes pending where fewer than `depth` are; at depth 0 it is committed at once
abbrev pub stored : ℕ → CoreState → Entry → Effect
stored zero s e = record { outcome = Committed; after = advanced s; commits = e ∷ [] }
stored (suc n) s e =
    if nat_lt (length s.pending) (suc n)
    then record {
      outcome = Buffered;
      after = record { place = s.place + 1; registers = s.registers; pending = s.pending ++ e ∷ [] };
      commits = [];
    }
    else stalled stall.Full s

-- the value that a load gets: of the newest own pending store to the location, else of memory
abbrev pub load_value : List ℕ → CoreState → ℕ → ℕ
load_value memory s loc = last_value (filter (writes_to loc) s.pending) (slice_index memory loc)

abbrev pub loaded : CoreState → Reg → Entry → Effect
loaded s reg e = record { outcome = Committed; after = advanced_with s reg e.value; commits = e ∷ [] }

-- the core at its next instruction, with these registers
abbrev pub advanced_to : CoreState → List ℕ → CoreState
advanced_to s registers = record { place = s.place + 1; registers = registers; pending = s.pending }

abbrev pub moved : CoreState → List ℕ → Effect
moved s registers = record { outcome = Moved; after = advanced_to s registers; commits = [] }

-- this effect once nothing is pending; until then a stall
abbrev pub when_drained : Stall → CoreState → Effect → Effect
when_drained why s f = if is_none_pending s.pending then f else stalled why s

-- a fence waits until nothing is pending
abbrev pub fenced : ℕ → CoreState → Effect
fenced core s = when_drained stall.Fence s (record { outcome = Committed; after = advanced s; commits = fence core s.place ∷ [] })

-- a locked instruction waits until nothing is pending; it reads the word and writes this value in one step
abbrev pub locked : ℕ → CoreState → Loc → Option Reg → ℕ → ℕ → Effect
locked core s loc target word value =
    when_drained stall.Lock s (record {
      outcome = Committed;
      after = advanced_taking s target word;
      commits = entry core s.place LR loc word ∷ (entry core s.place LW loc value ∷ []);
    })

-- what an action does at the core whose next it is
abbrev pub effect_by : ℕ → List ℕ → ℕ → Action → CoreState → Effect
effect_by depth memory core (Store loc operand) s = stored depth s (entry core s.place W loc (value_of s.registers operand))
effect_by depth memory core (Load reg loc) s = loaded s reg (entry core s.place R loc (load_value memory s loc.0))
effect_by depth memory core (Move change) s = moved s (changed change s.registers)
effect_by depth memory core Fence s = fenced core s
effect_by depth memory core (Lock loc target update) s =
    locked core s loc target (slice_index memory loc.0) (updated update s.registers (slice_index memory loc.0))

-- a step of a core at its next instruction, if there is one
abbrev pub step_of : ℕ → List ℕ → ℕ → Option Instr → CoreState → Effect
step_of depth memory core None s = stalled stall.Done s
step_of depth memory core (Some i) s = effect_by depth memory core (action_of i) s

-- a drain: the oldest pending store is committed
abbrev pub drain_of : CoreState → Effect
drain_of s =
    if is_none_pending s.pending
    then stalled stall.Empty s
    else record {
      outcome = Committed;
      after = record { place = s.place; registers = s.registers; pending = drop 1 s.pending };
      commits = take 1 s.pending;
    }

-- a core at the end of no program, which is where there is no core
abbrev pub idle : CoreState
idle = record { place = 0; registers = []; pending = [] }

abbrev pub program_of : Litmus → ℕ → List Instr
program_of t core = slice_index_or t.programs core []

abbrev pub core_of : State → ℕ → CoreState
core_of state core = slice_index_or state.cores core idle

-- the two choices of a core, by its number
abbrev pub step : ℕ → Choice
step core = Step (record { 0 = core })

abbrev pub drain : ℕ → Choice
drain core = Drain (record { 0 = core })

-- the core that a choice names
abbrev pub chosen : Choice → ℕ
chosen (Step core) = core.0
chosen (Drain core) = core.0

-- what a choice does in a state
abbrev pub effect_of : Litmus → ℕ → State → Choice → Effect
effect_of t depth state (Step core) =
    step_of depth state.memory core.0 (slice_get (program_of t core.0) (core_of state core.0).place) (core_of state core.0)
effect_of t depth state (Drain core) = drain_of (core_of state core.0)

-- memory after these entries, one after the other
abbrev pub memory_after : List Entry → List ℕ → List ℕ
memory_after [] words = words
memory_after (e ∷ es) words = memory_after es (if is_write e then slice_set words e.loc.0 e.value else words)

-- the state after an effect of this core
abbrev pub applied : State → ℕ → Effect → State
applied state core effect =
    record { memory = memory_after effect.commits state.memory; cores = slice_set state.cores core effect.after }

-- the state after a choice
abbrev pub after_choice : Litmus → ℕ → State → Choice → State
after_choice t depth state choice = applied state (chosen choice) (effect_of t depth state choice)

-- the registers of each core
abbrev pub registers_in : State → List (List ℕ)
registers_in state = map (λ s. s.registers) state.cores

-- each core at the beginning of its program, with its first registers and nothing pending
abbrev pub started : ℕ → List (List Instr) → List (List ℕ) → List CoreState
started core [] registers = []
started core (p ∷ ps) registers =
    record { place = 0; registers = slice_index_or registers core []; pending = [] } ∷ started (core + 1) ps registers

-- the first state
abbrev pub start : Litmus → State
start t = record { memory = t.words; cores = started 0 t.programs t.registers }
