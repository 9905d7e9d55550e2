-- The entries that all programs of a test make, where their reads return what an order itself says.
-- (x86-TSO, section 3: a thread's memory actions.)
use Rattle.std.specs.Prelude.{ℕ, ◌+◌, ◌==◌, ◌&&◌, Bool, if◌then◌else◌, List, [], ◌∷◌, ◌++◌, slice_index_or}
use Rattle.tso_terms.specs.Actions.{action_of}
use Rattle.tso_terms.specs.Thread.{entries_of}
use Rattle.tso_terms.specs.ProgramOrder.{same_kind}
use Rattle.tso_terms.specs.Litmus.{Litmus}
use Rattle.tso_terms.specs.declared.instruction.Instr.{Instr}
use Rattle.tso_terms.specs.declared.action.Action.{Action}
use Rattle.tso_terms.specs.declared.action.Action.TheVariants.{Load, Lock}
use Rattle.tso_terms.specs.declared.execution.Entry.{Entry}
use Rattle.tso_terms.specs.declared.execution.Kind.{Kind}
use Rattle.tso_terms.specs.declared.execution.Kind.TheVariants.{R, LR}

-- the entry of this core, place and kind
abbrev pub is_at : ℕ → ℕ → Kind → Entry → Bool
is_at core place kind e = (e.core.0 == core) && (e.place == place) && same_kind e.kind kind

-- the value that the order itself gives a read: that of its first entry of this core, place and kind, else 0
abbrev pub read_value : ℕ → ℕ → Kind → List Entry → ℕ
read_value core place kind [] = 0
read_value core place kind (e ∷ es) = if is_at core place kind e then e.value else read_value core place kind es

-- the value that the order itself gives what an action reads, if it reads
abbrev pub values_by : ℕ → ℕ → Action → List Entry → List ℕ
values_by core place (Load reg loc) order = read_value core place R order ∷ []
values_by core place (Lock loc target update) order = read_value core place LR order ∷ []
values_by core place _ order = []

-- the order's own values for the reads of a program from a place on, in program order
abbrev pub read_values : ℕ → ℕ → List Instr → List Entry → List ℕ
read_values core place [] order = []
read_values core place (i ∷ rest) order = values_by core place (action_of i) order ++ read_values core (place + 1) rest order

-- the entries that a core's program makes with the order's own read values
abbrev pub made_by : ℕ → List Instr → List ℕ → List Entry → List Entry
made_by core program registers order = entries_of core 0 program registers (read_values core 0 program order)

-- the entries that all programs make with them, core by core
abbrev pub made_from : ℕ → List (List Instr) → List (List ℕ) → List Entry → List Entry
made_from core [] registers order = []
made_from core (p ∷ ps) registers order =
    made_by core p (slice_index_or registers core []) order ++ made_from (core + 1) ps registers order

abbrev pub made : Litmus → List Entry → List Entry
made t order = made_from 0 t.programs t.registers order
