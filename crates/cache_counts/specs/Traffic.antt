-- What one core's accesses had moved on the bus: its requests, the copies of other cores that they turned to I, the lines that
-- another cache or memory supplied to it, and the lines that were written to memory for it. Requests, copies and lines are counted,
-- and no words; what the settling of memory at a test's end writes isn't counted. On a split bus a request is counted when the core
-- asks, for then the other caches see it. (Primer, chapters 6 and 7, for GetS and GetM; which copies supply, and which are sent to
-- memory, is this project's profile.)
use Rattle.std.specs.Prelude.{ℕ, ◌+◌, ◌==◌, Bool, true, false, if◌then◌else◌, List, [], ◌∷◌, Option, Some, None, slice_set}
use Rattle.tso_terms.specs.declared.instruction.Core.{Core}
use Rattle.protocol_tables.specs.Tables.{Table}
use Rattle.protocol_tables.specs.declared.requests.Request.{Request}
use Rattle.protocol_tables.specs.declared.requests.Request.TheVariants.{GetM, GetS}
use Rattle.protocol_tables.specs.declared.state.Snoop.{Snoop}
use Rattle.protocol_tables.specs.declared.state.State.{State}
use Rattle.protocol_tables.specs.declared.state.State.TheVariants.{E, I, M, O, S}
use Rattle.cache_set.specs.Requests.{snoop_column}
use Rattle.snoop_bus.specs.declared.access.AccessReport.{AccessReport}
use Rattle.snoop_bus.specs.declared.access.BusRequest.{BusRequest}
use Rattle.snoop_bus.specs.declared.access.Supplier.{Supplier}
use Rattle.snoop_bus.specs.declared.access.Supplier.TheVariants.{Cache, Memory}
use Rattle.multiprocessor.specs.declared.accesses.CacheUse.{CacheUse}
use Rattle.multiprocessor.specs.declared.accesses.CacheUse.TheVariants.{Asked, Forwarded, Through, Unused}
use Rattle.cache_counts.specs.declared.noting.CoreUse.{CoreUse}
use Rattle.cache_counts.specs.declared.traffic.Traffic.{Traffic}

abbrev pub traffic : ℕ → ℕ → ℕ → ℕ → ℕ → ℕ → Traffic
traffic get_s get_m invalidations from_caches from_memory to_memory = record {
  get_s = get_s;
  get_m = get_m;
  invalidations = invalidations;
  from_caches = from_caches;
  from_memory = from_memory;
  to_memory = to_memory;
}

abbrev pub no_traffic : Traffic
no_traffic = traffic 0 0 0 0 0 0

-- 1 for a request to read a line, and for one to write it
abbrev pub requests_to_read : Request → ℕ
requests_to_read GetS = 1
requests_to_read GetM = 0

abbrev pub requests_to_write : Request → ℕ
requests_to_write GetS = 0
requests_to_write GetM = 1

-- 1 for a line that another core's cache supplied, and for one that memory did; an upgrade moves none
abbrev pub from_cache : Option Supplier → ℕ
from_cache None = 0
from_cache (Some (Cache core)) = 1
from_cache (Some Memory) = 0

abbrev pub from_memory : Option Supplier → ℕ
from_memory None = 0
from_memory (Some (Cache core)) = 0
from_memory (Some Memory) = 1

-- 1 for a copy of another core that was sent to memory
abbrev pub sent : Option Core → ℕ
sent None = 0
sent (Some core) = 1

-- 1 for a dirty line that gave way, and so was written to memory
abbrev pub lines_written_back : Bool → ℕ
lines_written_back false = 0
lines_written_back true = 1

-- 1 for a copy that a request turns to I, by the protocol's column for the request
abbrev pub becomes_invalid : State → ℕ
becomes_invalid I = 1
becomes_invalid S = 0
becomes_invalid E = 0
becomes_invalid O = 0
becomes_invalid M = 0

abbrev pub given_up : (State → Snoop) → Option State → ℕ
given_up column None = 0
given_up column (Some state) = becomes_invalid (column state).next

-- how many of these copies a request turns to I
abbrev pub given_up_in : (State → Snoop) → List (Option State) → ℕ
given_up_in column [] = 0
given_up_in column (copy ∷ copies) = given_up column copy + given_up_in column copies

-- how many copies of other cores a core's request turns to I
abbrev pub copies_given_up : Table → ℕ → BusRequest → ℕ
copies_given_up table core r = given_up_in (snoop_column table r.request) (slice_set r.states core None)

-- with what one request of this core moved
abbrev pub with_traffic_of_request : Table → ℕ → BusRequest → Traffic → Traffic
with_traffic_of_request table core r x = traffic
    (x.get_s + requests_to_read r.request)
    (x.get_m + requests_to_write r.request)
    (x.invalidations + copies_given_up table core r)
    (x.from_caches + from_cache r.supplier)
    (x.from_memory + from_memory r.supplier)
    (x.to_memory + sent r.flushed)

abbrev pub with_requested : Table → ℕ → Option BusRequest → Traffic → Traffic
with_requested table core None x = x
with_requested table core (Some r) x = with_traffic_of_request table core r x

-- with a dirty line that gave way, if there was one
abbrev pub with_written_back : Bool → Traffic → Traffic
with_written_back b x =
    traffic x.get_s x.get_m x.invalidations x.from_caches x.from_memory (x.to_memory + lines_written_back b)

-- with what an access of this core moved; one that asked for a split bus has told its request then
abbrev pub with_traffic_of_access : Table → ℕ → AccessReport → Traffic → Traffic
with_traffic_of_access table core r x = with_written_back r.access.wrote_back (with_requested table core r.request x)

-- with what one choice of this core moved
abbrev pub with_use : Table → ℕ → CacheUse → Traffic → Traffic
with_use table core Unused x = x
with_use table core Forwarded x = x
with_use table core (Asked request) x = with_requested table core request x
with_use table core (Through report) x = with_traffic_of_access table core report x

-- with what a choice moved, if it was one of this core
abbrev pub with_use_of : Table → ℕ → CoreUse → Traffic → Traffic
with_use_of table core u x = if u.core.0 == core then with_use table core u.how x else x

-- with what these choices moved for this core, and with nothing before them
abbrev pub traffic_from : Table → ℕ → List CoreUse → Traffic → Traffic
traffic_from table core [] x = x
traffic_from table core (u ∷ us) x = traffic_from table core us (with_use_of table core u x)

abbrev pub traffic_of : Table → ℕ → List CoreUse → Traffic
traffic_of table core us = traffic_from table core us no_traffic
