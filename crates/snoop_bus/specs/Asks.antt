-- An access in two halves: at the ask the other caches see the request, and the bus keeps the words; at the
-- completion the core's own line is filled. One that is made whole is a hit, or one half after the other. Lines and states
-- alone, and memory. (Primer, chapter 7; which copies are sent or written to memory, and when, is this project's profile.)
use Rattle.std.specs.Prelude.{◌≡◌, ◌≢◌, ℕ, Bool, true, false, List, Option, Some, None, is_some, option_map}
use Rattle.snoop_bus.specs.Vocabulary.{Core, most_cores, GetM, GetS, I, ImD, IsD, M, Request, SmD, State, Table, Transient}
use Rattle.protocol_tables.specs.Transients.{transient_of}
use Rattle.snoop_bus.specs.declared.access.AccessKind.TheVariants.{Hit, Upgrade}
use Rattle.snoop_bus.specs.declared.access.BusRequest.{BusRequest}
use Rattle.snoop_bus.specs.declared.access.Supplier.{Supplier}
use Rattle.snoop_bus.specs.declared.access.Supplier.TheVariants.{Cache, Memory}
use Rattle.snoop_bus.specs.declared.holding.Transaction.{Transaction}
use Rattle.cache_set.specs.Lines.{Words}
use Rattle.snoop_bus.specs.CacheContents.{Accessed, accessed, missing, moving_nothing, requested_by}
use Rattle.cache_set.specs.CacheTags.{TagSets, tag_in, sets_of, requested, is_held, flusher_from, states_by_core, first_supplier, used_by, filled_by}
use Rattle.cache_set.specs.Copies.{Sets, tags_of}
use Rattle.cache_set.specs.Requests.{snoop_column}
use Rattle.snoop_bus.specs.MemoryAfter.{written_back, flushed, sent_words, victim_at}

-- the state of a core's line, if it has it
abbrev pub tag_at : ℕ → ℕ → List TagSets → Option State
tag_at core line caches = tag_in (sets_of caches core) line

-- the state in which an access that needs no bus leaves its core's copy: a load leaves it as it is, and what a write makes of
-- it the table tells; none where the access needs the bus
abbrev pub next_in_place : Table → Bool → Option State → Option State
next_in_place t write None = None
next_in_place t false (Some state) = Some state
next_in_place t true (Some state) = t.written state

-- whether an access is a hit: a load where the core has the line, a write access where the table lets the copy be
-- written in place
abbrev pub hits : Table → ℕ → ℕ → Bool → List TagSets → Bool
hits t core line write caches = is_some (next_in_place t write (tag_at core line caches))

abbrev pub request_for : Bool → Request
request_for false = GetS
request_for true = GetM

abbrev pub or_invalid : Option State → State
or_invalid None = I
or_invalid (Some state) = state

-- what a core's line is in once the core has made this request
abbrev pub asked_for : Request → ℕ → ℕ → List TagSets → Option Transient
asked_for request core line caches = transient_of (or_invalid (tag_at core line caches)) request

-- the state in which the line is to be filled
abbrev pub to_fill : Table → Request → ℕ → List TagSets → State
to_fill t GetS line caches = t.filled (is_held line caches)
to_fill t GetM line caches = M

-- the core whose copy is sent to memory by this request
abbrev pub flusher_of : Table → Request → ℕ → List TagSets → Option Core
flusher_of t GetS line caches = flusher_from 0 t.on_get_s line caches
flusher_of t GetM line caches = None

-- memory supplies the words where no core does
abbrev pub supplier_in : Option Core → Supplier
supplier_in None = Memory
supplier_in (Some core) = Cache core

-- an upgrade moves no words
abbrev pub moved_in : Transient → Supplier → Option Supplier
moved_in IsD supplier = Some supplier
moved_in ImD supplier = Some supplier
moved_in SmD supplier = None

-- what goes on the bus by a request, by what the line is in then: who supplies the words is the first core whose copy does so
-- by the protocol's column for the request
unfoldable pub requesting : Table → Request → ℕ → List TagSets → Transient → BusRequest
requesting t request line caches transient = record {
  request = request;
  line = line;
  supplier = moved_in transient (supplier_in (first_supplier 0 (snoop_column t request) line caches));
  flushed = flusher_of t request line caches;
  states = states_by_core most_cores line caches;
}

-- what an open transaction awaits: what the line is in meanwhile, the state in which it is to be filled, and the core
-- whose copy was sent to memory
pub record Awaited : Type 0 where
  pub transient : Transient
  pub state : State
  pub flushed : Option Core

unfoldable pub awaiting : Table → Request → ℕ → List TagSets → Transient → Awaited
awaiting t request line caches transient =
    record { transient = transient; state = to_fill t request line caches; flushed = flusher_of t request line caches }

abbrev pub asked_caches_in : Table → Request → ℕ → ℕ → Option Transient → List TagSets → List TagSets
asked_caches_in t request core line None caches = caches
asked_caches_in t request core line (Some x) caches = requested (snoop_column t request) core line caches

-- all caches after an ask: the others have seen the request, if there is one
abbrev pub asked_caches : Table → Request → ℕ → ℕ → List TagSets → List TagSets
asked_caches t request core line caches = asked_caches_in t request core line (asked_for request core line caches) caches

-- an ask: what goes on the bus, what it awaits, and all caches after it; a write access that hits asks nothing and awaits
-- nothing
pub record AskedAccess : Type 0 where
  pub request : Option BusRequest
  pub awaited : Option Awaited
  pub caches : List TagSets

abbrev pub asking : Table → Request → ℕ → ℕ → List TagSets → AskedAccess
asking t request core line caches = record {
  request = option_map (requesting t request line caches) (asked_for request core line caches);
  awaited = option_map (awaiting t request line caches) (asked_for request core line caches);
  caches = asked_caches t request core line caches;
}

abbrev pub completed_in : Table → ℕ → ℕ → Transient → State → Option Core → List TagSets → Accessed
completed_in t core line IsD state sender caches = accessed (missing t core line sender caches) (filled_by core line state caches)
completed_in t core line ImD state sender caches = accessed (missing t core line sender caches) (filled_by core line state caches)
completed_in t core line SmD state sender caches = accessed (moving_nothing Upgrade) (used_by core line state caches)

-- the completion of an access, after which the core has the line: a miss fills it, and another may leave; an upgrade
-- takes it to its new state; where nothing is awaited, it is a write access that hits
abbrev pub completed : Table → ℕ → ℕ → Option Awaited → List TagSets → Accessed
completed t core line None caches = accessed (moving_nothing Hit) (used_by core line M caches)
completed t core line (Some x) caches = completed_in t core line x.transient x.state x.flushed caches

-- an access with what went on the bus for it before
abbrev pub with_request : Option BusRequest → Accessed → Accessed
with_request request a = accessed (requested_by request a.report) a.caches

-- an access that asked, and its completion after that
abbrev pub after_ask : Table → ℕ → ℕ → AskedAccess → Accessed
after_ask t core line a = with_request a.request (completed t core line a.awaited a.caches)

-- an access in its two halves, one after the other
abbrev pub in_halves : Table → Request → ℕ → ℕ → List TagSets → Accessed
in_halves t request core line caches = after_ask t core line (asking t request core line caches)

-- what a core's line is in once an access that needs the bus has asked for it
abbrev pub awaited_as : Bool → Option State → Transient
awaited_as false copy = IsD
awaited_as true None = ImD
awaited_as true (Some state) = SmD

-- an access that has asked for its line, and is completed at once
abbrev pub asked_at_once : Table → Request → ℕ → ℕ → Transient → List TagSets → Accessed
asked_at_once t request core line transient caches = with_request (Some (requesting t request line caches transient))
    (completed t core line (Some (awaiting t request line caches transient)) (requested (snoop_column t request) core line caches))

abbrev pub whole_in : Table → Bool → ℕ → ℕ → List TagSets → Option State → Option State → Accessed
whole_in t write core line caches copy (Some next) = accessed (moving_nothing Hit) (used_by core line next caches)
whole_in t write core line caches copy None = asked_at_once t (request_for write) core line (awaited_as write copy) caches

-- an access that is made whole, a load or a write access: a hit, which needs no bus; else its two halves, an upgrade where the
-- core has a copy, and a miss where it has none
abbrev pub whole_access : Table → Bool → ℕ → ℕ → List TagSets → Accessed
whole_access t write core line caches =
    whole_in t write core line caches (tag_at core line caches) (next_in_place t write (tag_at core line caches))

-- a load that misses, and a write access, is its two halves
abbrev pub LoadsAreHalves : Table → Type 0
LoadsAreHalves t = (core line : ℕ) (caches : List TagSets) → hits t core line false caches ≡ false →
    whole_access t false core line caches ≡ in_halves t GetS core line caches

abbrev pub WritesAreHalves : Table → Type 0
WritesAreHalves t = (core line : ℕ) (caches : List TagSets) → tag_at core line caches ≢ Some I →
    whole_access t true core line caches ≡ in_halves t GetM core line caches

abbrev pub awaited_by : Transaction → Awaited
awaited_by x = record { transient = x.transient; state = x.copy.state; flushed = x.request.flushed }

abbrev pub awaited_in : Option Transaction → Option Awaited
awaited_in None = None
awaited_in (Some x) = Some (awaited_by x)

-- memory after an ask: on GetS the copy that is sent
abbrev pub asked_memory : Table → Request → ℕ → List Sets → List Words → List Words
asked_memory t GetS line caches memory = flushed line (sent_words t.on_get_s line caches) memory
asked_memory t GetM line caches memory = memory

abbrev pub completed_memory_in : Table → ℕ → ℕ → Transient → List Sets → List Words → List Words
completed_memory_in t core line IsD caches memory = written_back t (victim_at caches core line) memory
completed_memory_in t core line ImD caches memory = written_back t (victim_at caches core line) memory
completed_memory_in t core line SmD caches memory = memory

-- memory after a completion: where a miss sends a dirty line away, it was written back
abbrev pub completed_memory : Table → ℕ → ℕ → Option Awaited → List Sets → List Words → List Words
completed_memory t core line None caches memory = memory
completed_memory t core line (Some x) caches memory = completed_memory_in t core line x.transient caches memory

abbrev pub whole_memory_in : Table → Bool → ℕ → ℕ → List Sets → Option State → Option State → List Words → List Words
whole_memory_in t write core line caches copy (Some next) memory = memory
whole_memory_in t write core line caches copy None memory =
    completed_memory_in t core line (awaited_as write copy) caches (asked_memory t (request_for write) line caches memory)

-- memory after an access that is made whole: the ask leaves the core's own copies as they are, so what gives way at the
-- completion is what gave way before the ask
abbrev pub whole_memory : Table → Bool → ℕ → ℕ → List Sets → List Words → List Words
whole_memory t write core line caches memory =
    whole_memory_in t write core line caches (tag_at core line (tags_of caches)) (next_in_place t write (tag_at core line (tags_of caches))) memory
