-- What a trace says of where a word is found, held against the protocol's table, the copies before the choice, who holds the bus, and the
-- words that are seen. (Primer, chapters 6 and 7.)
use Rattle.std.specs.Prelude.{ℕ, ◌≡◌, ◌≢◌, ◌<◌, ◌/◌, true, List, length, Option, Some, None, slice_index_or, is_some}
use Rattle.tso_terms.specs.MemoryAccess.{MemoryAccess, Writes, access_of}
use Rattle.tso_terms.specs.SplitMachine.{Holder, Free, HeldBy}
use Rattle.basic_laws.specs.Types.{Choice, Core, Loc}
use Rattle.trace_report.specs.Vocabulary.{chosen, Configuration, IsTest, Litmus, new_machine, ProtocolKind, Running, table_of, tag_at}
use Rattle.protocol_tables.specs.Tables.{Table}
use Rattle.cache_set.specs.CacheTags.{first_supplier}
use Rattle.cache_set.specs.Requests.{snoop_column}
use Rattle.snoop_bus.specs.Rows.{table_of_rows}
use Rattle.snoop_bus.specs.declared.access.BusRequest.{BusRequest}
use Rattle.multiprocessor.specs.Caches.{Caches, at_access}
use Rattle.multiprocessor.specs.declared.accesses.CacheUse.{CacheUse}
use Rattle.multiprocessor.specs.declared.accesses.CacheUse.TheVariants as uses
use Rattle.machine_core.specs.Running.{machine_use}
use Rattle.trace_report.specs.OwnWords.{own_words}
use Rattle.trace_report.specs.StepLaws.{after_choices}
use Rattle.trace_report.specs.Steps.{is_forwarded}
use Rattle.trace_report.specs.Supplied.{supplied_by}
use Rattle.trace_report.specs.TraceLaws.{KeepsNoCopyInI}
use Rattle.trace_report.specs.declared.supplied.Source.{Source}
use Rattle.trace_report.specs.declared.supplied.Source.TheVariants.{Buffer, Cache, Other, Bus, Memory}

-- ---- a choice's access and these caches before it

-- the line of an access
abbrev pub line_accessed : Caches → MemoryAccess → Option ℕ
line_accessed c what = at_access None (λ loc write. Some (loc.0 / c.shape.words)) what

-- the request that goes on the bus by a choice, with its access or at its ask
abbrev pub request_made : CacheUse → Option BusRequest
request_made uses.Unused = None
request_made uses.Forwarded = None
request_made (uses.Asked q) = q
request_made (uses.Through r) = r.request

-- its core has the line
pub record HasItsLine (c : Caches) (core : ℕ) (what : MemoryAccess) : Type 0 where
  pub line : ℕ
  pub accessed : line_accessed c what ≡ Some line
  pub copy : is_some (tag_at core line c.contents) ≡ true

-- it is the action that holds the bus, which keeps for it the words of its line; its core hasn't got the line yet
pub record AwaitsItsLine (c : Caches) (holder : Holder) (choice : Choice) (what : MemoryAccess) : Type 0 where
  pub holds : holder ≡ HeldBy choice
  pub line : ℕ
  pub accessed : line_accessed c what ≡ Some line
  pub absent : tag_at (chosen choice) line c.contents ≡ None
  pub awaited : is_some c.awaited ≡ true

-- nobody holds the bus, and the core, which hasn't got the line, asks for it; this is the first core whose copy supplies it by the
-- table's column for the request, and there is none where memory does
pub record IsSupplied (c : Caches) (holder : Holder) (core : ℕ) (what : MemoryAccess) (how : CacheUse) (supplier : Option Core) : Type 0 where
  pub resting : holder ≡ Free
  pub request : BusRequest
  pub made : request_made how ≡ Some request
  pub accessed : line_accessed c what ≡ Some request.line
  pub absent : tag_at core request.line c.contents ≡ None
  pub first : first_supplier 0 (snoop_column (table_of_rows c.rows) request.request) request.line c.contents ≡ supplier

-- where it is told that the word is found, there it is
abbrev pub IsFoundBy : Caches → Holder → Choice → MemoryAccess → CacheUse → Source → Type 0
IsFoundBy c holder choice what how Buffer = is_forwarded how ≡ true
IsFoundBy c holder choice what how Cache = HasItsLine c (chosen choice) what
IsFoundBy c holder choice what how Bus = AwaitsItsLine c holder choice what
IsFoundBy c holder choice what how (Other core) = IsSupplied c holder (chosen choice) what how (Some core)
IsFoundBy c holder choice what how Memory = IsSupplied c holder (chosen choice) what how None

-- the same of a choice on a machine
abbrev pub IsFoundAt : Running → Choice → Source → Type 0
IsFoundAt m choice source =
    IsFoundBy m.statistics.caches m.state.holder choice (access_of m.test m.depth m.state.flat choice) (machine_use m choice).how source

-- at each location of a line that memory supplies, the words that a trace tells of memory are those that are seen
abbrev pub MemoryIsSeen : Running → Choice → Type 0
MemoryIsSeen m choice = (loc : ℕ) (before : List ℕ) → IsFoundAt m choice Memory
    → line_accessed m.statistics.caches (access_of m.test m.depth m.state.flat choice) ≡ Some (loc / m.statistics.caches.shape.words)
    → loc < length before → loc < length m.state.flat.memory → slice_index_or (own_words m before) loc 0 ≡ slice_index_or m.state.flat.memory loc 0

-- ---- in each machine that choices of a test lead to

-- the machine of a test after choices
abbrev pub machine_by : Table → Configuration → Litmus → List Choice → Running
machine_by table c t choices = after_choices (new_machine table c t) choices

-- a word is found where it is told; a core whose cache is told is another one of the test; of a choice that writes a word without reading
-- it none is told; and under each protocol the words that a trace tells of memory, where memory is told, are those that are seen
pub record SourcesAreTold : Type 0 where
  pub found : (table : Table) (c : Configuration) (t : Litmus) (choices : List Choice) (choice : Choice) (source : Source)
      → IsTest t → 0 < c.shape.words → KeepsNoCopyInI table
      → supplied_by (machine_by table c t choices) choice ≡ Some source → IsFoundAt (machine_by table c t choices) choice source
  pub others : (table : Table) (c : Configuration) (t : Litmus) (choices : List Choice) (choice : Choice) (other : Core)
      → IsTest t → 0 < c.shape.words → KeepsNoCopyInI table
      → supplied_by (machine_by table c t choices) choice ≡ Some (Other other) → (other.0 ≢ chosen choice) × (other.0 < length t.programs)
  pub reads : (m : Running) (choice : Choice) (source : Source) (loc : Loc)
      → supplied_by m choice ≡ Some source → access_of m.test m.depth m.state.flat choice ≢ Writes loc
  pub words : (kind : ProtocolKind) (c : Configuration) (t : Litmus) (choices : List Choice) (choice : Choice)
      → MemoryIsSeen (machine_by (table_of kind) c t choices) choice
