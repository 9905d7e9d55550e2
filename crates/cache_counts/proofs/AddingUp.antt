-- Each miss and each upgrade of a run that ended is one request, and the line of each miss is supplied once. A request whose access isn't
-- made yet is its core's who holds the bus; where the test has ended nobody holds it.
use Rattle.std.proofs.Common.{◌≡◌, ◌≢◌, ◌+◌, ◌/◌, ◌==◌, ℕ, Bool, true, false, if◌then◌else◌, List, [], ◌∷◌, length, Option, None, Some}
use Rattle.std.proofs.Common.{refl, sym, ap, subst, ◌∙◌, arith}
use Rattle.std.specs.Option.{option_map}
use Rattle.tso_terms.specs.Litmus.{Litmus}
use Rattle.tso_terms.specs.FlatMachine.{State, Effect, chosen, core_of, effect_of}
use Rattle.tso_terms.specs.Runs.{Run, has_ended}
use Rattle.tso_terms.specs.MemoryAccess.{MemoryAccess, NoAccess, Reads, Writes, Locks, access_of}
use Rattle.tso_terms.specs.SplitMachine.{Holder, Free, HeldBy, HeldBetween, Attempt, BusEffect, acts, asks, begins, completes, load_part}
use Rattle.tso_terms.specs.SplitMachine.{needs_bus, writes_last}
use Rattle.tso_terms.specs.EitherBus.{HitsFit, effect_on, resting_on, run_on_from, then_on}
use Rattle.tso_terms.specs.declared.execution.Entry.{Entry}
use Rattle.tso_terms.specs.declared.choice.Bus.{Bus}
use Rattle.tso_terms.specs.declared.choice.Bus.TheVariants.{Atomic, Split}
use Rattle.tso_terms.specs.declared.choice.Choice.{Choice}
use Rattle.tso_terms.specs.declared.choice.Choice.TheVariants.{Step}
use Rattle.tso_laws.specs.BusChoices.{IsPossibleOn}
use Rattle.tso_laws.specs.BusLaws.{AtomicRunsAreFlatRuns, WhatHoldsSoFarOnEitherBus}
use Rattle.tso_laws.specs.Holders.{HolderFits}
use Rattle.tso_laws.specs.inner.BusLaws.{AttemptsLeadFromStateToState}
use Rattle.tso_laws.proofs.Ways.{begins-by, completes-by, split-by}
use Rattle.protocol_tables.specs.Tables.{Table, table_of}
use Rattle.protocol_tables.specs.declared.kind.ProtocolKind.{ProtocolKind}
use Rattle.protocol_tables.specs.declared.requests.Request.{Request}
use Rattle.protocol_tables.specs.declared.requests.Request.TheVariants.{GetM, GetS}
use Rattle.protocol_tables.specs.declared.requests.Transient.{Transient}
use Rattle.protocol_tables.specs.declared.requests.Transient.TheVariants.{ImD, IsD, SmD}
use Rattle.protocol_tables.specs.declared.state.State as protocol
use Rattle.cache_set.specs.CacheTags.{TagSets}
use Rattle.snoop_bus.specs.Asks.{Awaited, asked_for, asking, awaited_as, awaiting, completed, completed_in, moved_in, request_for}
use Rattle.snoop_bus.specs.Asks.{requesting, whole_access, whole_in}
use Rattle.snoop_bus.specs.Rows.{table_of_rows}
use Rattle.snoop_bus.specs.declared.access.AccessKind.{AccessKind}
use Rattle.snoop_bus.specs.declared.access.AccessKind.TheVariants.{Hit, Miss, Upgrade}
use Rattle.snoop_bus.specs.declared.access.BusRequest.{BusRequest}
use Rattle.snoop_bus.specs.declared.access.Supplier.{Supplier}
use Rattle.snoop_bus.specs.declared.access.Supplier.TheVariants.{Cache, Memory}
use Rattle.tso_terms.specs.declared.instruction.Core.{Core}
use Rattle.multiprocessor.specs.Answered.{answered_from}
use Rattle.multiprocessor.specs.Caches.{Caches, Used, asking_by, completing_by, is_awaited, use_of, used_between}
use Rattle.multiprocessor.specs.Configuration.{Configuration}
use Rattle.multiprocessor.specs.Statistics.{with_access, with_write_back}
use Rattle.multiprocessor.specs.declared.accesses.CacheUse.{CacheUse}
use Rattle.multiprocessor.specs.declared.accesses.CacheUse.TheVariants.{Asked, Forwarded, Through, Unused}
use Rattle.multiprocessor.specs.declared.counts.Counts.{Counts}
use Rattle.multiprocessor.proofs.EachUse.{each-whole}
use Rattle.machine_core.specs.Running.{Running, attempt_on, machine_after, machine_use, new_machine}
use Rattle.machine_runs.specs.Runs.{AnswersFit, run_under}
use Rattle.machine_runs.proofs.BusLemmas.{run-is}
use Rattle.cache_counts.specs.AddingUp.{CountsAddUp, accesses_in, sum_of_uses}
use Rattle.cache_counts.specs.Traffic.{from_cache, from_memory, requests_to_read, requests_to_write, with_requested}
use Rattle.cache_counts.specs.declared.traffic.Traffic.{Traffic}
use Rattle.cache_counts.specs.Uses.{core_use_at, uses_from, uses_of}
use Rattle.cache_counts.proofs.UseSums.{CountsEach, MovesEach, core-is, counted-by-uses, moved-in-all}

-- ---- what a use comes to

-- whether an access is a miss or an upgrade
abbrev needing : AccessKind → ℕ
needing Hit = 0
needing Upgrade = 1
needing Miss = 1

abbrev needing_in : CacheUse → ℕ
needing_in Unused = 0
needing_in Forwarded = 0
needing_in (Asked q) = 0
needing_in (Through r) = needing r.access.kind

-- whether it is a miss
abbrev missing : AccessKind → ℕ
missing Hit = 0
missing Upgrade = 0
missing Miss = 1

abbrev missing_in : CacheUse → ℕ
missing_in Unused = 0
missing_in Forwarded = 0
missing_in (Asked q) = 0
missing_in (Through r) = missing r.access.kind

-- a request, if there is one
abbrev requests_of : Option BusRequest → ℕ
requests_of None = 0
requests_of (Some q) = 1

abbrev requests_in : CacheUse → ℕ
requests_in Unused = 0
requests_in Forwarded = 0
requests_in (Asked q) = requests_of q
requests_in (Through r) = requests_of r.request

-- a line that was supplied
abbrev lines_from : Option Supplier → ℕ
lines_from s = from_cache s + from_memory s

abbrev supplies_of : Option BusRequest → ℕ
supplies_of None = 0
supplies_of (Some q) = lines_from q.supplier

abbrev supplies_in : CacheUse → ℕ
supplies_in Unused = 0
supplies_in Forwarded = 0
supplies_in (Asked q) = supplies_of q
supplies_in (Through r) = supplies_of r.request

-- ---- what is awaited

-- an access that was asked for
abbrev awaits : Option Awaited → ℕ
awaits None = 0
awaits (Some x) = 1

-- a line that it gets
abbrev gets : Transient → ℕ
gets IsD = 1
gets ImD = 1
gets SmD = 0

abbrev awaits_line : Option Awaited → ℕ
awaits_line None = 0
awaits_line (Some x) = gets x.transient

-- what is asked for is in step with what is counted, but for what is awaited
record InStep (waits : Option Awaited → ℕ) (ask count : CacheUse → ℕ) : Type 0 where
  unused : ask Unused ≡ count Unused
  forwarded : ask Forwarded ≡ count Forwarded
  whole : (t : Table) (write : Bool) (core line : ℕ) (caches : List TagSets)
      → ask (Through (whole_access t write core line caches).report) ≡ count (Through (whole_access t write core line caches).report)
  asks_so : (t : Table) (request : Request) (core line : ℕ) (caches : List TagSets)
      → ask (Asked (asking t request core line caches).request)
      ≡ count (Asked (asking t request core line caches).request) + waits (asking t request core line caches).awaited
  completes_so : (t : Table) (core line : ℕ) (o : Option Awaited) (caches : List TagSets)
      → waits o + ask (Through (completed t core line o caches).report) ≡ count (Through (completed t core line o caches).report)

-- ---- requests

completed-needs : (t : Table) (core line : ℕ) (x : Transient) (state : protocol.State) (sender : Option Core) (caches : List TagSets)
    → needing (completed_in t core line x state sender caches).report.access.kind ≡ 1
completed-needs t core line IsD state sender caches = refl
completed-needs t core line ImD state sender caches = refl
completed-needs t core line SmD state sender caches = refl

completed-asks-nothing : (t : Table) (core line : ℕ) (x : Transient) (state : protocol.State) (sender : Option Core) (caches : List TagSets)
    → (completed_in t core line x state sender caches).report.request ≡ None
completed-asks-nothing t core line IsD state sender caches = refl
completed-asks-nothing t core line ImD state sender caches = refl
completed-asks-nothing t core line SmD state sender caches = refl

whole-request : (t : Table) (write : Bool) (core line : ℕ) (caches : List TagSets) (copy next : Option protocol.State)
    → requests_in (Through (whole_in t write core line caches copy next).report) ≡ needing_in (Through (whole_in t write core line caches copy next).report)
unfolding awaiting
whole-request t write core line caches copy (Some next) = refl
whole-request t write core line caches copy None = sym (completed-needs t core line (awaited_as write copy) _ _ _)

asked-request : (t : Table) (request : Request) (line : ℕ) (caches : List TagSets) (o : Option Transient)
    → requests_in (Asked (option_map (requesting t request line caches) o))
    ≡ needing_in (Asked (option_map (requesting t request line caches) o)) + awaits (option_map (awaiting t request line caches) o)
asked-request t request line caches None = refl
asked-request t request line caches (Some x) = refl

completed-request : (t : Table) (core line : ℕ) (o : Option Awaited) (caches : List TagSets)
    → awaits o + requests_in (Through (completed t core line o caches).report) ≡ needing_in (Through (completed t core line o caches).report)
completed-request t core line None caches = refl
completed-request t core line (Some x) caches =
    ap (λ (r : Option BusRequest). 1 + requests_of r) (completed-asks-nothing t core line x.transient x.state x.flushed caches)
    ∙ sym (completed-needs t core line x.transient x.state x.flushed caches)

requests-in-step : InStep awaits requests_in needing_in
requests-in-step = record {
  unused = refl;
  forwarded = refl;
  whole = λ t write core line caches. whole-request t write core line caches _ _;
  asks_so = λ t request core line caches. asked-request t request line caches (asked_for request core line caches);
  completes_so = completed-request;
}

-- ---- lines

completed-misses : (t : Table) (core line : ℕ) (x : Transient) (state : protocol.State) (sender : Option Core) (caches : List TagSets)
    → missing (completed_in t core line x state sender caches).report.access.kind ≡ gets x
completed-misses t core line IsD state sender caches = refl
completed-misses t core line ImD state sender caches = refl
completed-misses t core line SmD state sender caches = refl

one-supplier : (s : Supplier) → lines_from (Some s) ≡ 1
one-supplier (Cache core) = refl
one-supplier Memory = refl

moved-once : (x : Transient) (s : Supplier) → lines_from (moved_in x s) ≡ gets x
moved-once IsD s = one-supplier s
moved-once ImD s = one-supplier s
moved-once SmD s = refl

whole-supply : (t : Table) (write : Bool) (core line : ℕ) (caches : List TagSets) (copy next : Option protocol.State)
    → supplies_in (Through (whole_in t write core line caches copy next).report) ≡ missing_in (Through (whole_in t write core line caches copy next).report)
unfolding awaiting requesting
whole-supply t write core line caches copy (Some next) = refl
whole-supply t write core line caches copy None =
    moved-once (awaited_as write copy) _ ∙ sym (completed-misses t core line (awaited_as write copy) _ _ _)

asked-supply : (t : Table) (request : Request) (line : ℕ) (caches : List TagSets) (o : Option Transient)
    → supplies_in (Asked (option_map (requesting t request line caches) o))
    ≡ missing_in (Asked (option_map (requesting t request line caches) o)) + awaits_line (option_map (awaiting t request line caches) o)
unfolding awaiting requesting
asked-supply t request line caches None = refl
asked-supply t request line caches (Some x) = moved-once x _ ∙ (let z : gets x ≡ 0 + gets x = omega arith in z)

completed-supply : (t : Table) (core line : ℕ) (o : Option Awaited) (caches : List TagSets)
    → awaits_line o + supplies_in (Through (completed t core line o caches).report) ≡ missing_in (Through (completed t core line o caches).report)
completed-supply t core line None caches = refl
completed-supply t core line (Some x) caches =
    ap (λ (r : Option BusRequest). gets x.transient + supplies_of r) (completed-asks-nothing t core line x.transient x.state x.flushed caches)
    ∙ no_more (gets x.transient) ∙ sym (completed-misses t core line x.transient x.state x.flushed caches)
  where
    no_more : (n : ℕ) → n + 0 ≡ n
    no_more n = omega arith

supplies-in-step : InStep awaits_line supplies_in missing_in
supplies-in-step = record {
  unused = refl;
  forwarded = refl;
  whole = λ t write core line caches. whole-supply t write core line caches _ _;
  asks_so = λ t request core line caches. asked-supply t request line caches (asked_for request core line caches);
  completes_so = completed-supply;
}

-- ---- one choice

-- what a core awaits that holds the bus so
abbrev owed : (Option Awaited → ℕ) → ℕ → Holder → Option Awaited → ℕ
owed waits k Free o = 0
owed waits k (HeldBy choice) o = if chosen choice == k then waits o else 0
owed waits k (HeldBetween e) o = 0

-- of a core's choice, what comes to another core
abbrev at : ℕ → ℕ → ℕ → ℕ
at core k n = if core == k then n else 0

-- a choice asks for as much as it counts, but for what is awaited; and where no access is awaited, nothing is
abbrev Balanced : (Option Awaited → ℕ) → (CacheUse → ℕ) → (CacheUse → ℕ) → ℕ → ℕ → Holder → Option Awaited → Holder → Used → Type 0
Balanced waits ask count k core before o after u =
    (owed waits k before o + at core k (ask u.how) ≡ at core k (count u.how) + owed waits k after u.caches.awaited)
    × (is_awaited after ≡ false → u.caches.awaited ≡ None)

-- nothing is awaited where no access is
abbrev Quiet : Holder → Caches → Type 0
Quiet holder c = is_awaited holder ≡ false → c.awaited ≡ None

swap : (a b : ℕ) → a + b ≡ b + a
swap a b = omega arith

if-sum : (b : Bool) (x y z : ℕ) → x ≡ y + z → (if b then x else 0) ≡ (if b then y else 0) + (if b then z else 0)
if-sum true x y z h = h
if-sum false x y z h = refl

used-both : (b : Bool) (c : Caches) (core : ℕ) (what : MemoryAccess) (pending commits : List Entry)
    → used_between b b c core what pending commits ≡ use_of c pending commits
used-both true c core what pending commits = refl
used-both false c core what pending commits = refl

zero-first : (a b : ℕ) → a ≡ b → 0 + a ≡ b
zero-first a b h = omega (arith, h)

zero-gone : (a b : ℕ) → a ≡ 0 + b → a ≡ b
zero-gone a b h = omega (arith, h)

no-access : (what : MemoryAccess) (hits : Bool) → needs_bus what hits ≡ true → what ≢ NoAccess
no-access what hits needs none =
    let no : needs_bus NoAccess hits ≡ true = subst (λ (w : MemoryAccess). needs_bus w hits ≡ true) none needs in
    let z : ⊥ = cc in
    z

module _ (waits : Option Awaited → ℕ) (ask count : CacheUse → ℕ) (h : InStep waits ask count) (k : ℕ) where
  whole-use : (c : Caches) (pending commits : List Entry)
      → (ask (use_of c pending commits).how ≡ count (use_of c pending commits).how)
      × ((use_of c pending commits).caches.awaited ≡ c.awaited)
  whole-use c pending commits =
      each-whole (λ u. (ask u.how ≡ count u.how) × (u.caches.awaited ≡ c.awaited)) c (h.unused, refl) (h.forwarded, refl)
      (λ core loc write. (h.whole (table_of_rows c.rows) write core (loc / c.shape.words) c.contents, refl)) pending commits

  -- who holds the bus stays
  stays : (core : ℕ) (holder : Holder) (c : Caches) (what : MemoryAccess) (pending commits : List Entry) → Quiet holder c
      → Balanced waits ask count k core holder c.awaited holder (used_between (is_awaited holder) (is_awaited holder) c core what pending commits)
  stays core holder c what pending commits quiet =
      let same = whole-use c pending commits in
      subst (λ u. Balanced waits ask count k core holder c.awaited holder u) (sym (used-both (is_awaited holder) c core what pending commits)) (
        ap (λ (n : ℕ). owed waits k holder c.awaited + at core k n) same.0
            ∙ swap (owed waits k holder c.awaited) (at core k (count (use_of c pending commits).how))
            ∙ ap (λ (o : Option Awaited). at core k (count (use_of c pending commits).how) + owed waits k holder o) (sym same.1),
        (λ free. same.1 ∙ quiet free),
      )

  -- the store part of a locked instruction frees it
  frees : (core : ℕ) (e : Entry) (c : Caches) (what : MemoryAccess) (pending commits : List Entry) → Quiet (HeldBetween e) c
      → Balanced waits ask count k core (HeldBetween e) c.awaited Free (used_between false false c core what pending commits)
  frees core e c what pending commits quiet =
      let same = whole-use c pending commits in
      (ap (λ (n : ℕ). 0 + at core k n) same.0 ∙ swap 0 (at core k (count (use_of c pending commits).how)), (λ free. same.1 ∙ quiet refl))

  -- an access is asked for
  begins-to-wait : (choice : Choice) (c : Caches) (what : MemoryAccess) → what ≢ NoAccess
      → Balanced waits ask count k (chosen choice) Free c.awaited (HeldBy choice) (asking_by c (chosen choice) what)
  begins-to-wait choice c NoAccess some = absurd (some refl)
  begins-to-wait choice c (Reads loc) some = (
    zero-first _ _ (if-sum (chosen choice == k) _ _ _
        (h.asks_so (table_of_rows c.rows) (request_for false) (chosen choice) (loc.0 / c.shape.words) c.contents)),
    (λ free. absurd (let z : ⊥ = cc in z)),
  )
  begins-to-wait choice c (Writes loc) some = (
    zero-first _ _ (if-sum (chosen choice == k) _ _ _
        (h.asks_so (table_of_rows c.rows) (request_for true) (chosen choice) (loc.0 / c.shape.words) c.contents)),
    (λ free. absurd (let z : ⊥ = cc in z)),
  )
  begins-to-wait choice c (Locks loc) some = (
    zero-first _ _ (if-sum (chosen choice == k) _ _ _
        (h.asks_so (table_of_rows c.rows) (request_for true) (chosen choice) (loc.0 / c.shape.words) c.contents)),
    (λ free. absurd (let z : ⊥ = cc in z)),
  )

  -- and is made
  come-due : (b : Bool) (w a n : ℕ) → w + a ≡ n → (if b then w else 0) + (if b then a else 0) ≡ (if b then n else 0) + 0
  come-due true w a n is = omega (arith, is)
  come-due false w a n is = refl

  comes : (choice : Choice) (c : Caches) (what : MemoryAccess) (after : Holder) → what ≢ NoAccess → ((o : Option Awaited) → owed waits k after o ≡ 0)
      → Balanced waits ask count k (chosen choice) (HeldBy choice) c.awaited after (completing_by c (chosen choice) what)
  comes choice c NoAccess after some none = absurd (some refl)
  comes choice c (Reads loc) after some none = (
    come-due (chosen choice == k) _ _ _ (h.completes_so (table_of_rows c.rows) (chosen choice) (loc.0 / c.shape.words) c.awaited c.contents)
        ∙ ap (λ (n : ℕ). at (chosen choice) k (count (completing_by c (chosen choice) (Reads loc)).how) + n) (sym (none None)),
    (λ free. refl),
  )
  comes choice c (Writes loc) after some none = (
    come-due (chosen choice == k) _ _ _ (h.completes_so (table_of_rows c.rows) (chosen choice) (loc.0 / c.shape.words) c.awaited c.contents)
        ∙ ap (λ (n : ℕ). at (chosen choice) k (count (completing_by c (chosen choice) (Writes loc)).how) + n) (sym (none None)),
    (λ free. refl),
  )
  comes choice c (Locks loc) after some none = (
    come-due (chosen choice == k) _ _ _ (h.completes_so (table_of_rows c.rows) (chosen choice) (loc.0 / c.shape.words) c.awaited c.contents)
        ∙ ap (λ (n : ℕ). at (chosen choice) k (count (completing_by c (chosen choice) (Locks loc)).how) + n) (sym (none None)),
    (λ free. refl),
  )

  -- a choice with this effect, where the bus was held so
  abbrev Goes : Litmus → ℕ → State → Caches → Holder → Choice → BusEffect → Type 0
  Goes t depth flat c holder choice f =
      Balanced waits ask count k (chosen choice) holder c.awaited f.holder
      (used_between (is_awaited holder) (is_awaited f.holder) c (chosen choice) (access_of t depth flat choice)
      (core_of flat (chosen choice)).pending f.effect.commits)

  goes-acts : (t : Litmus) (depth : ℕ) (flat : State) (c : Caches) (holder : Holder) (choice : Choice) (f : Effect) → Quiet holder c
      → Goes t depth flat c holder choice (acts f holder)
  goes-acts t depth flat c holder choice f quiet =
      stays (chosen choice) holder c (access_of t depth flat choice) (core_of flat (chosen choice)).pending f.commits quiet

  goes-asks : (t : Litmus) (depth : ℕ) (flat : State) (c : Caches) (holder : Holder) (choice : Choice)
      → access_of t depth flat choice ≢ NoAccess
      → Quiet holder c
      → Goes t depth flat c holder choice (asks (core_of flat (chosen choice)) choice holder)
  goes-asks t depth flat c Free choice some quiet = begins-to-wait choice c (access_of t depth flat choice) some
  goes-asks t depth flat c (HeldBy other) choice some quiet =
      stays (chosen choice) (HeldBy other) c (access_of t depth flat choice) (core_of flat (chosen choice)).pending [] quiet
  goes-asks t depth flat c (HeldBetween e) choice some quiet =
      stays (chosen choice) (HeldBetween e) c (access_of t depth flat choice) (core_of flat (chosen choice)).pending [] quiet

  goes-begins : (t : Litmus) (depth : ℕ) (flat : State) (c : Caches) (holder : Holder) (a : Attempt) → Quiet holder c
      → Goes t depth flat c holder a.choice (begins t depth flat a holder)
  goes-begins t depth flat c holder a quiet =
      begins-by (Goes t depth flat c holder a.choice) t depth flat a holder
      (λ needs. goes-asks t depth flat c holder a.choice (no-access _ _ needs) quiet)
      (λ free. goes-acts t depth flat c holder a.choice (effect_of t depth flat a.choice) quiet)

  goes-completes : (t : Litmus) (depth : ℕ) (flat : State) (c : Caches) (choice : Choice) → access_of t depth flat choice ≢ NoAccess
      → Goes t depth flat c (HeldBy choice) choice (completes t depth flat choice (access_of t depth flat choice))
  goes-completes t depth flat c choice some =
      completes-by (λ x f. access_of t depth flat x ≢ NoAccess → Goes t depth flat c (HeldBy x) x f) t depth flat choice
      (λ whole some. comes choice c (access_of t depth flat choice) Free some (λ o. refl))
      (λ core loc reads some. comes (Step core) c (access_of t depth flat (Step core)) (HeldBetween (load_part flat core.0 loc)) some (λ o. refl)) some

  goes-on : (bus : Bus) (t : Litmus) (depth : ℕ) (flat : State) (holder : Holder) (c : Caches) (a : Attempt)
      → HolderFits bus t depth flat holder
      → Quiet holder c
      → Goes t depth flat c holder a.choice (effect_on bus t depth (record { flat = flat; holder = holder }) a)
  goes-on Atomic t depth flat holder c a fits quiet = goes-acts t depth flat c holder a.choice (effect_of t depth flat a.choice) quiet
  goes-on Split t depth flat holder c a fits quiet =
      split-by (λ held x f. HolderFits Split t depth flat held → Quiet held c → Goes t depth flat c held x f) t depth flat a holder
      (λ held other fits quiet. goes-begins t depth flat c held a quiet)
      (λ asked fits quiet. goes-completes t depth flat c asked fits)
      (λ e fits quiet.
      frees e.core.0 e c (access_of t depth flat (Step e.core)) (core_of flat e.core.0).pending (writes_last t depth flat e).effect.commits quiet)
      fits quiet

-- ---- all choices

-- the run from a machine on ends
abbrev EndsFrom : Running → List Choice → Type 0
EndsFrom m choices =
    (run_on_from m.bus m.test m.depth m.state (answered_from m.bus m.test m.depth m.state m.statistics.caches choices)).run.ended ≡ true

abbrev FitsFrom : Running → List Choice → Type 0
FitsFrom m choices = HitsFit m.bus m.test m.depth m.state (answered_from m.bus m.test m.depth m.state m.statistics.caches choices)

all-steps : (rest owed_next ask_rest owed_now ask_one count_one ask_here count_here : ℕ)
    → rest ≡ owed_next + ask_rest
    → owed_now + ask_one ≡ count_one + owed_next
    → ask_here ≡ ask_one → count_here ≡ count_one → count_here + rest ≡ owed_now + (ask_here + ask_rest)
all-steps a b c d e f g i p q r s = omega (arith, p, q, r, s)

module _ (waits : Option Awaited → ℕ) (ask count : CacheUse → ℕ) (h : InStep waits ask count)
    (laws : AttemptsLeadFromStateToState) (so_far : WhatHoldsSoFarOnEitherBus) (k : ℕ) where
  abbrev Total : Running → List Choice → Type 0
  Total m choices =
      sum_of_uses count k (uses_from m choices) ≡ owed waits k m.state.holder m.statistics.caches.awaited + sum_of_uses ask k (uses_from m choices)

  over : (m : Running) → IsPossibleOn m.bus m.test m.depth m.commits m.state → has_ended m.test m.state.flat ≡ true
      → 0 ≡ owed waits k m.state.holder m.statistics.caches.awaited + 0
  over m possible ended =
      ap (λ (x : Holder). owed waits k x m.statistics.caches.awaited + 0) (sym (so_far.free m.bus m.test m.depth m.commits m.state possible ended))

  along : (m : Running) (choices : List Choice)
      → IsPossibleOn m.bus m.test m.depth m.commits m.state
      → FitsFrom m choices
      → Quiet m.state.holder m.statistics.caches
      → EndsFrom m choices
      → Total m choices
  along m [] possible fit quiet ends = over m possible ends
  along m (c ∷ cs) possible fit quiet ends =
      by_end (has_ended m.test m.state.flat) refl ends (λ possible fit quiet ends. along (machine_after m c) cs possible fit quiet ends)
    where
      by_end : (b : Bool) → has_ended m.test m.state.flat ≡ b
          → (if b
          then resting_on true m.state
          (length (attempt_on m c ∷ answered_from m.bus m.test m.depth (machine_after m c).state (machine_after m c).statistics.caches cs))
          else then_on (effect_on m.bus m.test m.depth m.state (attempt_on m c)) (run_on_from m.bus m.test m.depth (machine_after m c).state
          (answered_from m.bus m.test m.depth (machine_after m c).state (machine_after m c).statistics.caches cs))).run.ended ≡ true
          → (IsPossibleOn m.bus m.test m.depth (machine_after m c).commits (machine_after m c).state → FitsFrom (machine_after m c) cs
          → Quiet (machine_after m c).state.holder (machine_after m c).statistics.caches → EndsFrom (machine_after m c) cs → Total (machine_after m c) cs)
          → sum_of_uses count k (if b then [] else core_use_at m c ∷ uses_from (machine_after m c) cs)
          ≡ owed waits k m.state.holder m.statistics.caches.awaited + sum_of_uses ask k (if b then [] else core_use_at m c ∷ uses_from (machine_after m c) cs)
      by_end true ended stops further = over m possible ended
      by_end false ended goes further =
          let step =
          goes-on waits ask count h k m.bus m.test m.depth m.state.flat m.state.holder m.statistics.caches
          (attempt_on m c)
          (so_far.so_far m.bus m.test m.depth m.commits m.state possible).holder quiet in
          let rest = further (laws.next m.bus m.test m.depth m.commits m.state (attempt_on m c) possible fit.0) fit.1 step.1 goes in
          all-steps _ _ _ _ _ _ _ _ rest step.0
          (ap (λ (i : ℕ). if i == k then ask (machine_use m c).how else 0) (core-is c))
          (ap (λ (i : ℕ). if i == k then count (machine_use m c).how else 0) (core-is c))

  -- of a whole run
  whole-run : AtomicRunsAreFlatRuns
      → (t : Litmus) (kind : ProtocolKind) (c : Configuration) (choices : List Choice)
      → AnswersFit t kind c choices
      → (run_under t kind c choices).ended ≡ true
      → sum_of_uses count k (uses_of (table_of kind) c t choices) ≡ sum_of_uses ask k (uses_of (table_of kind) c t choices)
  whole-run flat t kind c choices fit ended =
      zero-gone _ _ (along (new_machine (table_of kind) c t) choices (laws.first c.bus t c.depth) fit (λ free. refl)
      (sym (ap (λ (r : Run). r.ended) (run-is (table_of kind) c t choices flat)) ∙ ended))

-- ---- the numbers of a core

all-accesses : CountsEach (λ c. c.hits + c.misses + c.upgrades) accesses_in
all-accesses = record {
  unused = refl;
  asked = λ q. refl;
  forwarded = λ c. omega arith;
  through = λ r c. by_report r.access.wrote_back r.access.kind c;
  flush = λ c. refl;
  none = refl;
}
  where
    by_report : (b : Bool) (kind : AccessKind) (c : Counts)
        → (with_write_back b (with_access kind c)).hits + (with_write_back b (with_access kind c)).misses
        + (with_write_back b (with_access kind c)).upgrades
        ≡ c.hits + c.misses + c.upgrades + 1
    by_report true Hit c = omega arith
    by_report true Miss c = omega arith
    by_report true Upgrade c = omega arith
    by_report false Hit c = omega arith
    by_report false Miss c = omega arith
    by_report false Upgrade c = omega arith

all-needing : CountsEach (λ c. c.misses + c.upgrades) needing_in
all-needing = record {
  unused = refl;
  asked = λ q. refl;
  forwarded = λ c. omega arith;
  through = λ r c. by_report r.access.wrote_back r.access.kind c;
  flush = λ c. refl;
  none = refl;
}
  where
    by_report : (b : Bool) (kind : AccessKind) (c : Counts)
        → (with_write_back b (with_access kind c)).misses + (with_write_back b (with_access kind c)).upgrades ≡ c.misses + c.upgrades + needing kind
    by_report true Hit c = omega arith
    by_report true Miss c = omega arith
    by_report true Upgrade c = omega arith
    by_report false Hit c = omega arith
    by_report false Miss c = omega arith
    by_report false Upgrade c = omega arith

all-missing : CountsEach (λ c. c.misses) missing_in
all-missing = record {
  unused = refl;
  asked = λ q. refl;
  forwarded = λ c. omega arith;
  through = λ r c. by_report r.access.wrote_back r.access.kind c;
  flush = λ c. refl;
  none = refl;
}
  where
    by_report : (b : Bool) (kind : AccessKind) (c : Counts) → (with_write_back b (with_access kind c)).misses ≡ c.misses + missing kind
    by_report true Hit c = omega arith
    by_report true Miss c = omega arith
    by_report true Upgrade c = omega arith
    by_report false Hit c = omega arith
    by_report false Miss c = omega arith
    by_report false Upgrade c = omega arith

one-request : (r : Request) → requests_to_read r + requests_to_write r ≡ 1
one-request GetS = refl
one-request GetM = refl

requested : (table : Table) (core : ℕ) (o : Option BusRequest) (x : Traffic)
    → (with_requested table core o x).get_s + (with_requested table core o x).get_m ≡ x.get_s + x.get_m + requests_of o
requested table core None x = omega arith
requested table core (Some q) x = let one = one-request q.request in omega arith

all-requests : (table : Table) (core : ℕ) → MovesEach table core (λ x. x.get_s + x.get_m) requests_in
all-requests table core Unused x = omega arith
all-requests table core Forwarded x = omega arith
all-requests table core (Asked q) x = requested table core q x
all-requests table core (Through r) x = requested table core r.request x

supplied : (table : Table) (core : ℕ) (o : Option BusRequest) (x : Traffic)
    → (with_requested table core o x).from_caches + (with_requested table core o x).from_memory
    ≡ x.from_caches + x.from_memory + supplies_of o
supplied table core None x = omega arith
supplied table core (Some q) x = omega arith

all-supplies : (table : Table) (core : ℕ) → MovesEach table core (λ x. x.from_caches + x.from_memory) supplies_in
all-supplies table core Unused x = omega arith
all-supplies table core Forwarded x = omega arith
all-supplies table core (Asked q) x = supplied table core q x
all-supplies table core (Through r) x = supplied table core r.request x

pub counts-add-up : AttemptsLeadFromStateToState → WhatHoldsSoFarOnEitherBus → AtomicRunsAreFlatRuns → CountsAddUp
counts-add-up laws so_far flat t kind c choices k fit ended l =
    let table = table_of kind in
    let uses = uses_of table c t choices in
    record {
      made = counted-by-uses _ _ all-accesses table c t choices k l;
      requested =
          counted-by-uses _ _ all-needing table c t choices k l
          ∙ whole-run awaits requests_in needing_in requests-in-step laws so_far k flat t kind c choices fit ended
          ∙ sym (moved-in-all table k _ _ (all-requests table k) refl uses);
      supplied =
          counted-by-uses _ _ all-missing table c t choices k l
          ∙ whole-run awaits_line supplies_in missing_in supplies-in-step laws so_far k flat t kind c choices fit ended
          ∙ sym (moved-in-all table k _ _ (all-supplies table k) refl uses);
    }
