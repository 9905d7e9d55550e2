-- Where the word that a choice reads is found: among the core's own pending stores, in its own cache, on the bus that keeps it for
-- the core, in another core's cache, or in memory. The access that the choice makes says so, or on a split bus its request: who supplies
-- a line is the protocol's table to say. (x86-TSO, section 3, for the own stores; Primer, chapters 6 and 7, for the others.)
use Rattle.std.specs.Prelude.{ℕ, Bool, true, false, if◌then◌else◌, List, Option, Some, None, slice_get, codes}
use Rattle.trace_report.specs.Vocabulary.{chosen, core_of, Instr, Litmus, printed_core, Running}
use Rattle.tso_terms.specs.Actions.{action_of}
use Rattle.tso_terms.specs.FlatMachine.{program_of}
use Rattle.basic_laws.specs.Types.{Action, Choice, Step, Drain}
use Rattle.tso_terms.specs.declared.action.Action.TheVariants as action
use Rattle.snoop_bus.specs.declared.access.AccessKind.{AccessKind}
use Rattle.snoop_bus.specs.declared.access.AccessKind.TheVariants.{Hit, Upgrade, Miss}
use Rattle.snoop_bus.specs.declared.access.BusRequest.{BusRequest}
use Rattle.snoop_bus.specs.declared.access.Supplier.{Supplier}
use Rattle.snoop_bus.specs.declared.access.Supplier.TheVariants as supplier
use Rattle.multiprocessor.specs.declared.accesses.CacheUse.{CacheUse}
use Rattle.multiprocessor.specs.declared.accesses.CacheUse.TheVariants as uses
use Rattle.machine_core.specs.Running.{machine_use}
use Rattle.trace_report.specs.declared.supplied.Source.{Source}
use Rattle.trace_report.specs.declared.supplied.Source.TheVariants.{Buffer, Cache, Other, Bus, Memory}

-- who supplied the words that a core asked for; where none were moved the core had them
abbrev pub source_of : Option Supplier → Source
source_of None = Cache
source_of (Some (supplier.Cache core)) = Other core
source_of (Some supplier.Memory) = Memory

-- by what went on the bus; this where nothing did
abbrev pub source_by : Source → Option BusRequest → Source
source_by otherwise None = otherwise
source_by otherwise (Some q) = source_of q.supplier

-- an access for which nothing goes on the bus now: the core has the line, or on a split bus the words have come since the ask
abbrev pub source_without : AccessKind → Source
source_without Hit = Cache
source_without Upgrade = Cache
source_without Miss = Bus

-- of a choice that had this to do with the caches; one that asks without a request is a write access that hits, so that its core has
-- the line
abbrev pub source_in : CacheUse → Option Source
source_in uses.Unused = None
source_in uses.Forwarded = Some Buffer
source_in (uses.Asked request) = Some (source_by Cache request)
source_in (uses.Through r) = Some (source_by (source_without r.access.kind) r.request)

-- an action that reads a word: a load, and a locked instruction
abbrev pub action_reads : Action → Bool
action_reads (action.Store loc operand) = false
action_reads (action.Load reg loc) = true
action_reads (action.Move change) = false
action_reads action.Fence = false
action_reads (action.Lock loc reg update) = true

-- of the instruction that the core stands at
abbrev pub reads_at : Option Instr → Bool
reads_at None = false
reads_at (Some i) = action_reads (action_of i)

-- of a choice at this place of its core's program
abbrev pub reads_from : Litmus → ℕ → Choice → Bool
reads_from t place (Step core) = reads_at (slice_get (program_of t core.0) place)
reads_from t place (Drain core) = false

-- where the word is found that such a choice reads, which had this to do with the caches; none where it reads nothing
abbrev pub found_by : Litmus → ℕ → Choice → CacheUse → Option Source
found_by t place choice how = if reads_from t place choice then source_in how else None

-- where the word is found that a choice on a machine reads, or asks for to read it
abbrev pub supplied_by : Running → Choice → Option Source
supplied_by m choice = found_by m.test (core_of m.state.flat (chosen choice)).place choice (machine_use m choice).how

-- `buffer`, `cache`, `P1`, `bus` and `memory`
abbrev pub supplier_text : Source → List ℕ
supplier_text Buffer = codes "buffer"
supplier_text Cache = codes "cache"
supplier_text (Other core) = printed_core core
supplier_text Bus = codes "bus"
supplier_text Memory = codes "memory"
