-- What a choice asks for on the bus, how many copies others give up for it, and that its request tells the states which the caches had.
use Rattle.std.proofs.Common.{◌≡◌, ◌+◌, ◌/◌, ℕ, Bool, List, Option, None, Some, refl, sym, subst}
use Rattle.std.specs.Option.{option_map}
use Rattle.tso_terms.specs.Limits.{most_cores}
use Rattle.tso_terms.specs.FlatMachine.{chosen, core_of}
use Rattle.tso_terms.specs.MemoryAccess.{access_of}
use Rattle.basic_laws.specs.Types.{Choice}
use Rattle.protocol_tables.specs.Tables.{Table}
use Rattle.protocol_tables.specs.declared.requests.Request.{Request}
use Rattle.protocol_tables.specs.declared.requests.Transient.{Transient}
use Rattle.protocol_tables.specs.declared.requests.Transient.TheVariants.{ImD, IsD, SmD}
use Rattle.protocol_tables.specs.declared.state.State as protocol
use Rattle.cache_set.specs.CacheTags.{TagSets, states_by_core}
use Rattle.snoop_bus.specs.Asks.{Awaited, asked_for, completed, completed_in, next_in_place, request_for, requesting, tag_at, whole_in}
use Rattle.snoop_bus.specs.Rows.{table_of_rows}
use Rattle.snoop_bus.specs.declared.access.BusRequest.{BusRequest}
use Rattle.multiprocessor.specs.Caches.{is_awaited}
use Rattle.multiprocessor.specs.declared.accesses.CacheUse.{CacheUse}
use Rattle.multiprocessor.specs.declared.accesses.CacheUse.TheVariants.{Asked, Forwarded, Through, Unused}
use Rattle.multiprocessor.proofs.EachUse.{each-use}
use Rattle.machine_core.specs.Running.{Running, machine_effect, machine_use}
use Rattle.trace_report.specs.Steps.{sent_by, sent_with, trace_step_of}
pub use Rattle.trace_report.specs.SupplyLaws.{request_made}
use Rattle.trace_report.specs.declared.step.LineRequest.{LineRequest}
use Rattle.cache_counts.specs.Traffic.{copies_given_up, with_requested}
use Rattle.cache_counts.specs.declared.traffic.Traffic.{Traffic}
use Rattle.cache_counts.proofs.UseSums.{MovesEach}
use Rattle.counted_steps.proofs.Sums.{no-more}

-- ---- what a use asks for

abbrev pub given_by : Table → ℕ → Option BusRequest → ℕ
given_by table k None = 0
given_by table k (Some q) = copies_given_up table k q

abbrev pub given_in : Table → ℕ → CacheUse → ℕ
given_in table k how = given_by table k (request_made how)

request-given : (table : Table) (k : ℕ) (o : Option BusRequest) (x : Traffic)
    → (with_requested table k o x).invalidations ≡ x.invalidations + given_by table k o
request-given table k None x = no-more x.invalidations
request-given table k (Some q) x = refl

pub each-given : (table : Table) (k : ℕ) → MovesEach table k (λ x. x.invalidations) (given_in table k)
each-given table k Unused x = no-more x.invalidations
each-given table k Forwarded x = no-more x.invalidations
each-given table k (Asked q) x = request-given table k q x
each-given table k (Through r) x = request-given table k r.request x

-- ---- a step tells it

abbrev pub line_request : BusRequest → LineRequest
line_request q = record { request = q.request; line = q.line }

request-sent : (o : Option BusRequest) → (sent_with o).request ≡ option_map line_request o
request-sent None = refl
request-sent (Some q) = refl

sent-request : (how : CacheUse) → (sent_by how).request ≡ option_map line_request (request_made how)
sent-request Unused = refl
sent-request Forwarded = refl
sent-request (Asked q) = request-sent q
sent-request (Through r) = request-sent r.request

pub request-told : (m : Running) (c : Choice) → (trace_step_of m c).request ≡ option_map line_request (request_made (machine_use m c).how)
unfolding trace_step_of
request-told m c = sent-request (machine_use m c).how

-- ---- a request tells the states that the caches had

abbrev pub TellsStates : List TagSets → Option BusRequest → Type 0
TellsStates caches None = Unit {0}
TellsStates caches (Some q) = q.states ≡ states_by_core most_cores q.line caches

asking-states : (t : Table) (request : Request) (line : ℕ) (caches : List TagSets) (o : Option Transient)
    → TellsStates caches (request_made (Asked (option_map (requesting t request line caches) o)))
unfolding requesting
asking-states t request line caches None = tt
asking-states t request line caches (Some x) = refl

completed-quiet : (t : Table) (core line : ℕ) (w : Option Awaited) (caches : List TagSets) → (completed t core line w caches).report.request ≡ None
completed-quiet t core line None caches = refl
completed-quiet t core line (Some x) caches = by_transient x.transient
  where
    by_transient : (y : Transient) → (completed_in t core line y x.state x.flushed caches).report.request ≡ None
    by_transient IsD = refl
    by_transient ImD = refl
    by_transient SmD = refl

completed-states : (t : Table) (core line : ℕ) (w : Option Awaited) (caches other : List TagSets)
    → TellsStates other (completed t core line w caches).report.request
completed-states t core line w caches other = subst (TellsStates other) (sym (completed-quiet t core line w caches)) tt

whole-states : (t : Table) (write : Bool) (core line : ℕ) (caches : List TagSets) (copy next : Option protocol.State)
    → TellsStates caches (whole_in t write core line caches copy next).report.request
unfolding requesting
whole-states t write core line caches copy (Some next) = tt
whole-states t write core line caches copy None = refl

pub states-told : (m : Running) (c : Choice) → TellsStates m.statistics.caches.contents (request_made (machine_use m c).how)
states-told m c =
    let f = machine_effect m c in
    let caches = m.statistics.caches in
    let t = table_of_rows caches.rows in
    let line : ℕ → ℕ = λ loc. loc / caches.shape.words in
    each-use (λ u. TellsStates caches.contents (request_made u.how)) caches tt tt
    (λ core loc write. whole-states t write core (line loc) caches.contents (tag_at core (line loc) caches.contents)
    (next_in_place t write (tag_at core (line loc) caches.contents)))
    (chosen c)
    (λ loc write. asking-states t (request_for write) (line loc) caches.contents (asked_for (request_for write) (chosen c) (line loc) caches.contents))
    (λ loc. completed-states t (chosen c) (line loc) caches.awaited caches.contents caches.contents)
    (is_awaited m.state.holder) (is_awaited f.holder) (access_of m.test m.depth m.state.flat c) (core_of m.state.flat (chosen c)).pending f.effect.commits
