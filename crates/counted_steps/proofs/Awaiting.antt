-- What the bus awaits for the lines of other cores than the one that makes a choice: as much as before where the choice asks for nothing;
-- else nothing, before and after.
use Rattle.std.proofs.Common.{◌≡◌, ◌≢◌, ◌⊎◌, ◌/◌, ◌==◌, ◌&&◌, inl, inr, ℕ, Bool, true, false, if◌then◌else◌, List, Option, None, Some, refl}
use Rattle.std.proofs.Common.{sym, ap, subst, ◌∙◌}
use Rattle.std.proofs.lemmas.Bool.{true≢false}
use Rattle.std.specs.Option.{option_map}
use Rattle.std.specs.Prelude.{is_some, not}
use Rattle.basic_laws.proofs.Basics.{test-false}
use Rattle.tso_terms.specs.Litmus.{Litmus}
use Rattle.tso_terms.specs.FlatMachine.{State, chosen}
use Rattle.tso_terms.specs.MemoryAccess.{MemoryAccess, NoAccess, Reads, Writes, Locks, access_of}
use Rattle.tso_terms.specs.SplitMachine.{Holder, Free, HeldBy, HeldBetween, needs_bus}
use Rattle.basic_laws.specs.Types.{Atomic, Bus, Choice, Step}
use Rattle.protocol_tables.specs.Tables.{Table}
use Rattle.protocol_tables.specs.declared.requests.Transient.{Transient}
use Rattle.protocol_tables.specs.declared.state.State as protocol
use Rattle.cache_set.specs.CacheTags.{TagSets}
use Rattle.snoop_bus.specs.Asks.{Awaited, next_in_place, tag_at, whole_in}
use Rattle.snoop_bus.specs.Rows.{table_of_rows}
use Rattle.multiprocessor.specs.Caches.{Caches, Used, at_access, completing_by, hits_by, is_awaited}
use Rattle.multiprocessor.specs.declared.accesses.CacheUse.{CacheUse}
use Rattle.machine_core.specs.Looking.{bus_holder, bus_holder_as, bus_holder_of}
use Rattle.machine_core.specs.Running.{Running, machine_after, machine_use}
use Rattle.machine_core.specs.Uses.{IsUseFor}
use Rattle.trace_report.specs.Steps.{awaited_at}
use Rattle.trace_report.proofs.FlushesTold.{IsSound, uses-of}
use Rattle.trace_report.proofs.InPlace.{use-keeps}
use Rattle.trace_report.proofs.UsesOnBus.{Stays, UsesOn, begun, ended, made, unused}
use Rattle.trace_report.proofs.Whole.{words-kept}
use Rattle.counted_steps.proofs.Requests.{request_made}

-- ---- what is awaited for a core's line

-- by who holds the bus, the accesses that choices would make, and what the holder awaits
abbrev for_line : Holder → (Choice → MemoryAccess) → Option Awaited → ℕ → ℕ → ℕ → Option Transient
for_line Free accesses w words core line = None
for_line (HeldBy choice) accesses w words core line =
    awaited_at (at_access None (λ loc write. Some (bus_holder choice loc w)) (accesses choice)) words core line
for_line (HeldBetween e) accesses w words core line = awaited_at (Some (bus_holder (Step e.core) e.loc w)) words core line

line-is : (t : Litmus) (d : ℕ) (flat : State) (w : Option Awaited) (h : Holder) (words core line : ℕ)
    → awaited_at (bus_holder_as t d flat w h) words core line ≡ for_line h (access_of t d flat) w words core line
line-is t d flat w Free words core line = refl
line-is t d flat w (HeldBy choice) words core line = refl
line-is t d flat w (HeldBetween e) words core line = refl

none-if : (b : Bool) (x : Option Transient) → x ≡ None → (if b then x else None) ≡ None
none-if true x q = q
none-if false x q = refl

-- where nothing is, nothing is for the line
none-for : (h : Holder) (accesses : Choice → MemoryAccess) (words core line : ℕ) → for_line h accesses None words core line ≡ None
none-for Free accesses words core line = refl
none-for (HeldBy choice) accesses words core line = by_access (accesses choice)
  where
    by_access : (what : MemoryAccess) → awaited_at (at_access None (λ loc write. Some (bus_holder choice loc None)) what) words core line ≡ None
    by_access NoAccess = refl
    by_access (Reads loc) = none-if ((chosen choice == core) && (loc.0 / words == line)) None refl
    by_access (Writes loc) = none-if ((chosen choice == core) && (loc.0 / words == line)) None refl
    by_access (Locks loc) = none-if ((chosen choice == core) && (loc.0 / words == line)) None refl
none-for (HeldBetween e) accesses words core line = none-if ((e.core.0 == core) && (e.loc.0 / words == line)) None refl

none-here : (h : Holder) (accesses : Choice → MemoryAccess) (w : Option Awaited) (words core line : ℕ) → w ≡ None → for_line h accesses w words core line ≡ None
none-here h accesses w words core line none = ap (λ (x : Option Awaited). for_line h accesses x words core line) none ∙ none-for h accesses words core line

-- the line that is awaited is the holder's own
apart-if : (b r : Bool) (x : Option Transient) → b ≡ false → (if b && r then x else None) ≡ None
apart-if b r x q = ap (λ (c : Bool). if c && r then x else None) q

own-alone : (choice : Choice) (accesses : Choice → MemoryAccess) (w : Option Awaited) (words core line : ℕ)
    → core ≢ chosen choice
    → for_line (HeldBy choice) accesses w words core line ≡ None
own-alone choice accesses w words core line n = by_access (accesses choice)
  where
    apart : (chosen choice == core) ≡ false
    apart = test-false (chosen choice) core (λ e. n (sym e))

    awaited : Option Transient
    awaited = option_map (λ (x : Awaited). x.transient) w

    by_access : (what : MemoryAccess) → awaited_at (at_access None (λ loc write. Some (bus_holder choice loc w)) what) words core line ≡ None
    by_access NoAccess = refl
    by_access (Reads loc) = apart-if (chosen choice == core) (loc.0 / words == line) awaited apart
    by_access (Writes loc) = apart-if (chosen choice == core) (loc.0 / words == line) awaited apart
    by_access (Locks loc) = apart-if (chosen choice == core) (loc.0 / words == line) awaited apart

-- ---- an access that needs no bus asks for nothing

hit-asks : (t : Table) (write : Bool) (core line : ℕ) (caches : List TagSets) (copy next : Option protocol.State) → not (is_some next) ≡ false
    → (whole_in t write core line caches copy next).report.request ≡ None
hit-asks t write core line caches copy None hit = absurd (true≢false hit)
hit-asks t write core line caches copy (Some next) hit = refl

use-asks : (c : Caches) (core : ℕ) (what : MemoryAccess) (u : Used)
    → IsUseFor c core what u
    → needs_bus what (hits_by c core what) ≡ false
    → request_made u.how ≡ None
use-asks c core NoAccess u (inl is) free = ap (λ (x : Used). request_made x.how) is
use-asks c core NoAccess u (inr is) free = ap (λ (x : Used). request_made x.how) is
use-asks c core (Locks loc) u is free = absurd (true≢false free)
use-asks c core (Reads loc) u is free =
    let t : Table = table_of_rows c.rows in
    let copy : Option protocol.State = tag_at core (loc.0 / c.shape.words) c.contents in
    ap (λ (x : Used). request_made x.how) is ∙ hit-asks t false core (loc.0 / c.shape.words) c.contents copy (next_in_place t false copy) free
use-asks c core (Writes loc) u is free =
    let t : Table = table_of_rows c.rows in
    let copy : Option protocol.State = tag_at core (loc.0 / c.shape.words) c.contents in
    ap (λ (x : Used). request_made x.how) is ∙ hit-asks t true core (loc.0 / c.shape.words) c.contents copy (next_in_place t true copy) free

completes-awaited : (c : Caches) (core : ℕ) (what : MemoryAccess) → what ≢ NoAccess → (completing_by c core what).caches.awaited ≡ None
completes-awaited c core NoAccess some = absurd (some refl)
completes-awaited c core (Reads loc) some = refl
completes-awaited c core (Writes loc) some = refl
completes-awaited c core (Locks loc) some = refl

-- ---- a choice on either bus

-- nothing is awaited where no access is
abbrev pub IsQuiet : Holder → Option Awaited → Type 0
IsQuiet holder w = is_awaited holder ≡ false → w ≡ None

-- what is awaited for another core's line
pub data Beside (how : CacheUse) (before after : Option Transient) : Type 0 where
  as_before : request_made how ≡ None → before ≡ after → Beside how before after
  nothing : before ≡ None → after ≡ None → Beside how before after

abbrev BesideOn : CacheUse → Holder → (Choice → MemoryAccess) → Option Awaited → Holder → (Choice → MemoryAccess) → Option Awaited → ℕ → ℕ → ℕ → Type 0
BesideOn how holder before w next after now words core line = Beside how (for_line holder before w words core line) (for_line next after now words core line)

module _ (on : Bus) (c : Caches) (a : Choice) (before after : Choice → MemoryAccess) (holder next : Holder)
    (u : Used) (quiet : IsQuiet holder c.awaited) where
  quiet-next : UsesOn on c a before after holder next u → IsQuiet next u.caches.awaited
  quiet-next (made it why stays) = λ free. (use-keeps c (chosen a) (before a) u it).1 ∙ quiet (sym stays.waits ∙ free)
  quiet-next (unused is stays) = λ free. ap (λ (x : Used). x.caches.awaited) is ∙ quiet (sym stays.waits ∙ free)
  quiet-next (begun split is some free held same) = λ rest. absurd (true≢false (sym (ap is_awaited held) ∙ rest))
  quiet-next (ended split is some held rest) = λ free. ap (λ (x : Used). x.caches.awaited) is ∙ completes-awaited c (chosen a) (before a) some

  made-asks : IsUseFor c (chosen a) (before a) u
      → ((on ≡ Atomic) × (holder ≡ Free) × (next ≡ Free))
      ⊎ (needs_bus (before a) (hits_by c (chosen a) (before a)) ≡ false)
      → (other : Choice) → holder ≡ HeldBy other → request_made u.how ≡ None
  made-asks it (inl atomic) other held = absurd (true≢false (ap is_awaited (sym held ∙ atomic.1)))
  made-asks it (inr free) other held = use-asks c (chosen a) (before a) u it free

  module _ (words core line : ℕ) (apart : core ≢ chosen a) where
    resting : is_awaited next ≡ false
        → is_awaited next ≡ is_awaited holder
        → IsQuiet next u.caches.awaited
        → BesideOn u.how holder before c.awaited next after u.caches.awaited words core line
    resting free waits after-quiet =
        nothing (none-here holder before c.awaited words core line (quiet (sym waits ∙ free)))
        (none-here next after u.caches.awaited words core line (after-quiet free))

    -- another action holds the bus before and after, at the same access
    holding : u.caches.awaited ≡ c.awaited
        → (other : Choice) → next ≡ HeldBy other
        → holder ≡ HeldBy other
        → after other ≡ before other
        → for_line holder before c.awaited words core line ≡ for_line next after u.caches.awaited words core line
    holding awaited other there here same =
        ap (λ (h : Holder). for_line h before c.awaited words core line) here
        ∙ (ap (λ (what : MemoryAccess). awaited_at (at_access None (λ loc write. Some (bus_holder other loc c.awaited)) what) words core line) (sym same)
        ∙ (ap (λ (w : Option Awaited). for_line (HeldBy other) after w words core line) (sym awaited)
        ∙ ap (λ (h : Holder). for_line h after u.caches.awaited words core line) (sym there)))

    staying : (h : Holder) → next ≡ h → u.caches.awaited ≡ c.awaited → Stays before after holder next → IsQuiet next u.caches.awaited
        → ((other : Choice) → holder ≡ HeldBy other → request_made u.how ≡ None)
        → BesideOn u.how holder before c.awaited next after u.caches.awaited words core line
    staying Free q awaited stays after-quiet asks = resting (ap is_awaited q) stays.waits after-quiet
    staying (HeldBetween e) q awaited stays after-quiet asks = resting (ap is_awaited q) stays.waits after-quiet
    staying (HeldBy other) q awaited stays after-quiet asks =
        let held = stays.held other q in
        as_before (asks other held.0) (holding awaited other q held.0 held.1)

    beside-on : UsesOn on c a before after holder next u → BesideOn u.how holder before c.awaited next after u.caches.awaited words core line
    beside-on (made it why stays) =
        staying next refl (use-keeps c (chosen a) (before a) u it).1 stays (quiet-next (made it why stays)) (made-asks it why)
    beside-on (unused is stays) =
        staying next refl (ap (λ (x : Used). x.caches.awaited) is) stays (quiet-next (unused is stays))
        (λ other held. ap (λ (x : Used). request_made x.how) is)
    beside-on (begun split is some free held same) =
        nothing (ap (λ (h : Holder). for_line h before c.awaited words core line) free)
        (ap (λ (h : Holder). for_line h after u.caches.awaited words core line) held ∙ own-alone a after u.caches.awaited words core line apart)
    beside-on (ended split is some held rest) =
        nothing (ap (λ (h : Holder). for_line h before c.awaited words core line) held ∙ own-alone a before c.awaited words core line apart)
        (none-here next after u.caches.awaited words core line (ap (λ (x : Used). x.caches.awaited) is ∙ completes-awaited c (chosen a) (before a) some))

-- ---- machines

abbrev pub awaits : Running → ℕ → ℕ → Option Transient
awaits m core line = awaited_at (bus_holder_of m) m.statistics.caches.shape.words core line

abbrev pub AtRest : Running → Type 0
AtRest m = IsQuiet m.state.holder m.statistics.caches.awaited

pub rest-kept : (m : Running) (c : Choice) → IsSound m → AtRest m → AtRest (machine_after m c)
rest-kept m c sound quiet =
    quiet-next m.bus m.statistics.caches c (access_of m.test m.depth m.state.flat)
    (access_of m.test m.depth (machine_after m c).state.flat) m.state.holder (machine_after m c).state.holder
    (machine_use m c) quiet (uses-of m c sound).0

same-beside : (how : CacheUse) (before was after now : Option Transient) → before ≡ was → after ≡ now → Beside how was now → Beside how before after
same-beside how before was after now p q b =
    subst (λ (x : Option Transient). Beside how x after) (sym p) (subst (λ (y : Option Transient). Beside how was y) (sym q) b)

pub beside : (m : Running) (c : Choice)
    → IsSound m
    → AtRest m
    → (core line : ℕ) → core ≢ chosen c
    → Beside (machine_use m c).how (awaits m core line) (awaits (machine_after m c) core line)
beside m c sound quiet core line apart =
    let next = machine_after m c in
    let words : ℕ = m.statistics.caches.shape.words in
    let before : Choice → MemoryAccess = access_of m.test m.depth m.state.flat in
    let after : Choice → MemoryAccess = access_of m.test m.depth next.state.flat in
    same-beside (machine_use m c).how (awaits m core line) (for_line m.state.holder before m.statistics.caches.awaited words core line)
    (awaits next core line) (for_line next.state.holder after (machine_use m c).caches.awaited words core line)
    (line-is m.test m.depth m.state.flat m.statistics.caches.awaited m.state.holder words core line)
    (line-is m.test m.depth next.state.flat (machine_use m c).caches.awaited next.state.holder next.statistics.caches.shape.words core line
    ∙ ap (λ (n : ℕ). for_line next.state.holder after (machine_use m c).caches.awaited n core line) (words-kept m c))
    (beside-on m.bus m.statistics.caches c before after m.state.holder next.state.holder
    (machine_use m c) quiet words core line apart (uses-of m c sound).0)
