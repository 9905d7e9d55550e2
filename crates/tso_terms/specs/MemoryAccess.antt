-- The access that a choice makes: what it reads or writes beyond its own core's pending stores.
-- (x86-TSO, section 3, for loads that the own buffer answers; Primer, chapter 7, for accesses on a bus.)
use Rattle.std.specs.Prelude.{ℕ, List, [], ◌∷◌, filter, Option, Some, None, slice_get, zero, suc}
use Rattle.tso_terms.specs.Litmus.{Litmus}
use Rattle.tso_terms.specs.Actions.{action_of}
use Rattle.tso_terms.specs.ProgramOrder.{writes_to}
use Rattle.tso_terms.specs.FlatMachine.{State, program_of, core_of}
use Rattle.tso_terms.specs.declared.instruction.Loc.{Loc}
use Rattle.tso_terms.specs.declared.instruction.Instr.{Instr}
use Rattle.tso_terms.specs.declared.action.Action.{Action}
use Rattle.tso_terms.specs.declared.action.Action.TheVariants.{Store, Load, Move, Fence, Lock}
use Rattle.tso_terms.specs.declared.execution.Entry.{Entry}
use Rattle.tso_terms.specs.declared.choice.Choice.{Choice}
use Rattle.tso_terms.specs.declared.choice.Choice.TheVariants.{Step, Drain}

-- none; a read or a write of a location; or a locked instruction's read and write of it
pub data MemoryAccess : Type 0 where
  NoAccess : MemoryAccess
  Reads : Loc → MemoryAccess
  Writes : Loc → MemoryAccess
  Locks : Loc → MemoryAccess

-- a plain store writes at its step where there is no store buffer
abbrev pub store_access : ℕ → Loc → MemoryAccess
store_access zero loc = Writes loc
store_access (suc n) loc = NoAccess

-- a load reads, unless one of these own pending stores answers it
abbrev pub load_access : Loc → List Entry → MemoryAccess
load_access loc [] = Reads loc
load_access loc (p ∷ ps) = NoAccess

-- a locked instruction waits until nothing is pending
abbrev pub locked_access : Loc → List Entry → MemoryAccess
locked_access loc [] = Locks loc
locked_access loc (p ∷ ps) = NoAccess

-- the access of an action, with these stores pending
abbrev pub access_by : ℕ → Action → List Entry → MemoryAccess
access_by depth (Store loc operand) pending = store_access depth loc
access_by depth (Load reg loc) pending = load_access loc (filter (writes_to loc.0) pending)
access_by depth (Move change) pending = NoAccess
access_by depth Fence pending = NoAccess
access_by depth (Lock loc target update) pending = locked_access loc pending

-- the access of a step, at this instruction with these stores pending
abbrev pub step_access : ℕ → Option Instr → List Entry → MemoryAccess
step_access depth None pending = NoAccess
step_access depth (Some i) pending = access_by depth (action_of i) pending

-- a drain writes the oldest of these pending stores
abbrev pub drain_access : List Entry → MemoryAccess
drain_access [] = NoAccess
drain_access (p ∷ ps) = Writes p.loc

-- the instruction that a core is at
abbrev pub next_of : Litmus → State → ℕ → Option Instr
next_of t state core = slice_get (program_of t core) (core_of state core).place

-- the access that a choice makes in a state
abbrev pub access_of : Litmus → ℕ → State → Choice → MemoryAccess
access_of t depth state (Step core) = step_access depth (next_of t state core.0) (core_of state core.0).pending
access_of t depth state (Drain core) = drain_access (core_of state core.0).pending
