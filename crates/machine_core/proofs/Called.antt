-- A call of a bus, and memory's words after it: those that are seen, but where a copy is dirty those of before.
use Rattle.machine_core.proofs.Vocabulary.{◌≡◌, ◌≢◌, ◌∙◌, ◌⊎◌, ◌<◌, ◌/◌, ◌&&◌, ℕ, Bool, true, false, if◌then◌else◌, IfSome, List, length}
use Rattle.machine_core.proofs.Vocabulary.{Option, Some, None, option_map, nat_eq, inl, inr, refl, sym, ap, subst, eqb_tells, Loc, is_dirty}
use Rattle.machine_core.proofs.Vocabulary.{Table, table_of, ProtocolKind, GetS, State, Line, table_of_rows, rows_of, line_in, state_of_copy}
use Rattle.machine_core.proofs.Vocabulary.{may_share, TagSets, tag_in, requested, filled_by, Sets, copy_at, cache_of, tags_of, BusModel}
use Rattle.machine_core.proofs.Vocabulary.{AllCoherent, counted_copies, holder_of, IsFree, written_back, victim_at, tag_at, or_invalid}
use Rattle.machine_core.proofs.Vocabulary.{asked_caches_in, awaiting, awaited_by, awaited_in, Awaited, completed, completed_in}
use Rattle.machine_core.proofs.Vocabulary.{completed_memory, completed_memory_in, contents_of, memory_of, would_hit, line_of_location}
use Rattle.machine_core.proofs.Vocabulary.{awaited_of, AsksFor, CompletesAt, tag_at-copy, IsOwner, is_some, next_in_place, request_for}
use Rattle.machine_core.proofs.Vocabulary.{to_fill, asked_memory, whole_in, whole_access, whole_memory, whole_memory_in, Words}
use Rattle.tso_terms.specs.declared.instruction.Core.{Core}
use Rattle.protocol_tables.specs.Transients.{transient_of}
use Rattle.protocol_tables.specs.declared.requests.Transient.{Transient}
use Rattle.protocol_tables.specs.declared.requests.Transient.TheVariants.{IsD, ImD, SmD}
use Rattle.cache_set.specs.Requests.{snoop_column}
use Rattle.snoop_bus.specs.Held.{counted_copies_of, counted_in, transaction_in, holder_in, holder}
use Rattle.snoop_bus.specs.inner.Bus.{IsBus}
use Rattle.snoop_bus.specs.inner.Held.{IsHeld, IsPlaced, Awaits, AskedOf}
use Rattle.snoop_bus.specs.inner.Accesses.{MayGoOn}
use Rattle.snoop_bus.specs.declared.holding.HeldBus.{HeldBus}
use Rattle.snoop_bus.specs.declared.holding.Stage.{Stage}
use Rattle.snoop_bus.specs.declared.holding.Stage.TheVariants.{Load, Write, Locked}
use Rattle.snoop_bus.specs.declared.holding.Transaction.{Transaction}
use Rattle.snoop_bus.specs.declared.access.AccessReport.{AccessReport}
use Rattle.snoop_bus.specs.declared.access.BusRequest.{BusRequest}
use Rattle.snoop_bus.proofs.HeldLemmas.{counting-at}
use Rattle.snoop_bus.proofs.HolderLemmas.{free-held}
use Rattle.machine_core.specs.inner.Calls.{IsCalled, loads, writes, asks, completes, keeps}
use Rattle.machine_core.proofs.Victims.{AllNeat, own-kept}
use Rattle.machine_core.proofs.Unowned.{SettlesMemory, settles, IsDirtyAt, never, not_absent, state-of}
use Rattle.machine_core.proofs.Stale.{AreApart, coherent-apart, miss-stale, fill-stale, ask-stale}

-- what every bus keeps
abbrev pub IsSound : BusModel → Type 0
IsSound b = IsBus b.shape b.locations b.caches b.memory b.held

-- ---- copies that count

-- where nothing is awaited they are those of the caches
none-counted : (held : Option HeldBus) (caches : List Sets) → awaited_in (transaction_in held) ≡ None → counted_copies_of held caches ≡ caches
none-counted None caches q = refl
none-counted (Some h) caches q = by_transaction h.transaction q
  where
    by_transaction : (x : Option Transaction) → awaited_in x ≡ None → counted_in h.holder.core.0 h.line x caches ≡ caches
    by_transaction None q = refl
    by_transaction (Some x) q = absurd (let z : ⊥ = cc in z)

-- a dirty copy that counts is one by the states in the caches
owner-dirty : (caches : List Sets) (core line : ℕ) → IsOwner caches line core → IsDirtyAt core line (tags_of caches)
owner-dirty caches core line h = subst (λ s. is_dirty s ≡ true) (sym (state-of caches core line)) h

quiet-dirty : (b : BusModel) (core line : ℕ) → awaited_of b ≡ None → IsOwner (counted_copies b) line core → IsDirtyAt core line (contents_of b)
quiet-dirty b core line q h = owner-dirty b.caches core line (subst (λ caches. IsOwner caches line core) (none-counted b.held b.caches q) h)

-- nobody holds the bus: nothing is awaited
free-quiet : (b : BusModel) → IsFree b → awaited_of b ≡ None
free-quiet b free = ap (λ (h : Option HeldBus). awaited_in (transaction_in h)) (free-held b.held free)

free-apart : (b : BusModel) → IsSound b → awaited_of b ≡ None → AreApart b.caches
free-apart b h quiet = coherent-apart b.caches b.memory (subst (λ caches. AllCoherent caches b.memory) (none-counted b.held b.caches quiet) h.coherent)

-- an access that misses is made where nobody holds the bus
missing-free : (b : BusModel) (core loc : ℕ) (write : Bool) → MayGoOn b core loc write → tag_at core (line_of_location b loc) (contents_of b) ≡ None → IsFree b
missing-free b core loc write (inl free) none = free
missing-free b core loc write (inr hit) none =
    let misses : would_hit b core loc write ≡ false = ap (λ o. is_some (next_in_place (table_of_rows b.rows) write o)) none in
    absurd (let z : ⊥ = cc in z)

-- ---- each call

-- memory's line changes only where no copy that counts is dirty then
abbrev IsStale : BusModel → BusModel → ℕ → Type 0
IsStale old new k = line_in (memory_of new) k ≡ line_in (memory_of old) k

-- an access that finds a copy leaves memory as it is
found-memory : (t : Table) (write : Bool) (core line : ℕ) (caches : List Sets) (memory : List Words) (s : State)
    (next : Option State)
    → next_in_place t write (Some s) ≡ next
    → whole_memory_in t write core line caches (Some s) next memory ≡ memory
found-memory t write core line caches memory s (Some next) q = refl
found-memory t false core line caches memory s None q = absurd (let z : ⊥ = cc in z)
found-memory t true core line caches memory s None q = refl

-- one that finds none fills it in once it has asked
miss-memory : (t : Table) (write : Bool) (core line : ℕ) (caches : List Sets) (memory : List Words)
    → whole_memory_in t write core line caches None None memory
    ≡ written_back t (victim_at caches core line) (asked_memory t (request_for write) line caches memory)
miss-memory t false core line caches memory = refl
miss-memory t true core line caches memory = refl

miss-caches : (t : Table) (write : Bool) (core line : ℕ) (caches : List TagSets)
    → (whole_in t write core line caches None None).caches
    ≡ filled_by core line (to_fill t (request_for write) line caches) (requested (snoop_column t (request_for write)) core line caches)
unfolding awaiting
miss-caches t false core line caches = refl
miss-caches t true core line caches = refl

access-call : (lines : ℕ) (old new : BusModel) (core loc : ℕ) (write : Bool) (k i : ℕ)
    → SettlesMemory (table_of_rows old.rows)
    → IsSound old
    → AllNeat lines (contents_of old)
    → MayGoOn old core loc write
    → memory_of new ≡ whole_memory (table_of_rows old.rows) write core (line_of_location old loc) old.caches old.memory
    → contents_of new
    ≡ (whole_access (table_of_rows old.rows) write core (line_of_location old loc) (contents_of old)).caches
    → awaited_of new ≡ awaited_of old → IsOwner (counted_copies new) k i → IsStale old new k
access-call lines old new core loc write k i h sound neat may memory contents awaited owner =
    ap (λ m. line_in m k) memory ∙ by_tag (tag_at core line (contents_of old)) refl
  where
    t : Table
    t = table_of_rows old.rows

    line : ℕ
    line = line_of_location old loc

    by_tag : (o : Option State)
        → tag_at core line (contents_of old) ≡ o
        → line_in (whole_memory t write core line old.caches old.memory) k ≡ line_in old.memory k
    by_tag (Some s) q =
        ap (λ o. line_in (whole_memory_in t write core line old.caches o (next_in_place t write o) old.memory) k) q
        ∙ ap (λ m. line_in m k) (found-memory t write core line old.caches old.memory s (next_in_place t write (Some s)) refl)
    by_tag None q =
        let quiet = free-quiet old (missing-free old core loc write may q) in
        let after =
        contents
        ∙ ap (λ o. (whole_in t write core line (contents_of old) o (next_in_place t write o)).caches) q
        ∙ miss-caches t write core line (contents_of old) in
        ap (λ o. line_in (whole_memory_in t write core line old.caches o (next_in_place t write o) old.memory) k) q
        ∙ ap (λ m. line_in m k) (miss-memory t write core line old.caches old.memory)
        ∙ miss-stale t write lines core line old.caches old.memory k i h neat (free-apart old sound quiet) q
        (subst (IsDirtyAt i k) after (quiet-dirty new i k (awaited ∙ quiet) owner))

-- of an ask: among the copies that count, the holder's is the one that comes in, which is clean, or what it has
ask-owner : (caches : List Sets) (h : HeldBus) (x : Option Transaction) (core line i : ℕ)
    → h.holder.core.0 ≡ core
    → h.holder.core.0 < length caches
    → 0 < length (cache_of caches h.holder.core.0)
    → ((y : Transaction) → x ≡ Some y → is_dirty y.copy.state ≡ false)
    → IsOwner (counted_in h.holder.core.0 h.line x caches) line i
    → IsDirtyAt i line (tags_of caches)
ask-owner caches h None core line i same within some clean owner = owner-dirty caches i line owner
ask-owner caches h (Some y) core line i same within some clean owner =
    by_test (nat_eq i h.holder.core.0 && nat_eq line h.line)
    (subst (λ o. is_dirty (state_of_copy o) ≡ true) (counting-at caches h.holder.core.0 h.line y.copy i line within some) owner)
  where
    by_test : (b : Bool) → is_dirty (state_of_copy (if b then Some y.copy else copy_at caches i line)) ≡ true → IsDirtyAt i line (tags_of caches)
    by_test true q = absurd (never _ q (clean y refl))
    by_test false q = owner-dirty caches i line q

awaited-clean : (t : Table) (y : Transaction) (line : ℕ) (caches : List TagSets)
    → SettlesMemory t
    → Some (awaited_by y) ≡ Some (awaiting t GetS line caches IsD)
    → is_dirty y.copy.state ≡ false
unfolding awaiting
awaited-clean t y line caches h e = let same : awaited_by y ≡ awaiting t GetS line caches IsD = cc in ap (λ (a : Awaited). is_dirty a.state) same ∙ h.filled _

load-asks : (lines : ℕ) (old new : BusModel) (core : Core) (loc : Loc) (request : Option BusRequest) (k i : ℕ)
    → SettlesMemory (table_of_rows old.rows)
    → IsSound old
    → IsSound new
    → AllNeat lines (contents_of old)
    → IsFree old
    → would_hit old core.0 loc.0 false ≡ false → AsksFor old new core loc false request → IsOwner (counted_copies new) k i → IsStale old new k
load-asks lines old new core loc request k i h sound after neat free misses at owner =
    ap (λ m. line_in m k) at.memory
    ∙ ask-stale t lines core.0 line old.caches old.memory k i h neat (free-apart old sound (free-quiet old free))
    (λ same. (λ e. other e same, subst (λ n. IsDirtyAt i n (requested t.on_get_s core.0 line (contents_of old))) same found))
  where
    t : Table
    t = table_of_rows old.rows

    line : ℕ
    line = line_of_location old loc.0

    none : tag_at core.0 line (contents_of old) ≡ None
    none = by_tag (tag_at core.0 line (contents_of old)) refl misses
      where
        by_tag : (o : Option State)
            → tag_at core.0 line (contents_of old) ≡ o
            → is_some (next_in_place t false o) ≡ false
            → tag_at core.0 line (contents_of old) ≡ None
        by_tag None q missed = q
        by_tag (Some s) q missed = absurd (let z : ⊥ = cc in z)

    awaits : awaited_of new ≡ Some (awaiting t GetS line (contents_of old) IsD)
    awaits = at.awaited_is ∙ ap (λ o. option_map (awaiting t GetS line (contents_of old)) (transient_of (or_invalid o) GetS)) none

    contents : contents_of new ≡ requested t.on_get_s core.0 line (contents_of old)
    contents = at.contents ∙ ap (λ o. asked_caches_in t GetS core.0 line (transient_of (or_invalid o) GetS) (contents_of old)) none

    clean : (y : Transaction) → transaction_in new.held ≡ Some y → is_dirty y.copy.state ≡ false
    clean y q = awaited-clean t y line (contents_of old) h (sym (ap awaited_in q) ∙ awaits)

    dirty : IsDirtyAt i k (contents_of new)
    dirty = by_held new.held refl owner
      where
        by_held : (held : Option HeldBus) → new.held ≡ held → IsOwner (counted_copies_of held new.caches) k i → IsDirtyAt i k (tags_of new.caches)
        by_held None q o = owner-dirty new.caches i k o
        by_held (Some x) q o =
            let is : IsHeld new.caches new.memory x = subst (λ held. IfSome held (IsHeld new.caches new.memory)) q after.awaited in
            ask-owner new.caches x x.transaction x.holder.core.0 k i refl is.core_in is.some_set (λ y e. clean y (ap transaction_in q ∙ e)) o

    found : IsDirtyAt i k (requested t.on_get_s core.0 line (contents_of old))
    found = subst (IsDirtyAt i k) contents dirty

    other : i ≡ core.0 → k ≡ line → ⊥
    other same at_line =
        let own =
        subst (λ j. IsDirtyAt j line (requested t.on_get_s core.0 line (contents_of old))) same
        (subst (λ n. IsDirtyAt i n (requested t.on_get_s core.0 line (contents_of old))) at_line found) in
        not_absent _ (ap (λ sets. tag_in sets line) (own-kept core.0 _ (contents_of old)) ∙ none) own

-- ---- completions

asked-none : (x : Transient) (copy : Line) (own : Option Line) → x ≢ IsD → AskedOf x copy own → x ≢ SmD → own ≡ None
asked-none IsD copy own n is other = absurd (n refl)
asked-none ImD copy own n is other = is.0
asked-none SmD copy own n is other = absurd (other refl)

-- what is awaited and no upgrade isn't there yet
awaited-none : (stage : Stage) (y : Transaction) (own : Option Line) → Awaits stage (Some y) own → y.transient ≢ SmD → own ≡ None
awaited-none Load y own is n = is.1
awaited-none Write y own is n = asked-none y.transient y.copy own is.0 is.1 n
awaited-none Locked y own is n = absurd is

-- of another line than the one that is awaited the copies that count are those of the caches
counted-other : (caches : List Sets) (h : HeldBus) (x : Option Transaction) (i k : ℕ)
    → h.holder.core.0 < length caches
    → 0 < length (cache_of caches h.holder.core.0)
    → k ≢ h.line
    → copy_at (counted_in h.holder.core.0 h.line x caches) i k ≡ copy_at caches i k
counted-other caches h None i k within some n = refl
counted-other caches h (Some y) i k within some n =
    counting-at caches h.holder.core.0 h.line y.copy i k within some
    ∙ by_line (eqb_tells k h.line) (nat_eq i h.holder.core.0)
  where
    by_line : (nat_eq k h.line ≡ true) × (k ≡ h.line) ⊎ (nat_eq k h.line ≡ false) × (k ≢ h.line)
        → (b : Bool) → (if b && nat_eq k h.line then Some y.copy else copy_at caches i k) ≡ copy_at caches i k
    by_line (inl p) b = absurd (n p.1)
    by_line (inr p) true = rw p.0 refl
    by_line (inr p) false = refl

complete-call : (lines : ℕ) (old new : BusModel) (core : Core) (loc : Loc) (stage : Stage) (report : AccessReport)
    (k i : ℕ)
    → SettlesMemory (table_of_rows old.rows)
    → IsSound old
    → AllNeat lines (contents_of old)
    → holder_of old ≡ Some (holder core loc stage)
    → awaited_of new ≡ None
    → CompletesAt old new core.0 loc.0 report
    → IsOwner (counted_copies new) k i
    → IsStale old new k
complete-call lines old new core loc stage report k i h sound neat holds quiet at owner = by_held old.held refl
  where
    t : Table
    t = table_of_rows old.rows

    line : ℕ
    line = line_of_location old loc.0

    found : IsDirtyAt i k (contents_of new)
    found = quiet-dirty new i k quiet owner

    by_held : (held : Option HeldBus) → old.held ≡ held → IsStale old new k
    by_held None q = let z : holder_of old ≡ None = ap holder_in q in absurd (let y : ⊥ = cc in y)
    by_held (Some x) q =
        ap (λ m. line_in m k) at.memory
        ∙ (ap (λ w. line_in (completed_memory t core.0 line w old.caches old.memory) k) awaits
        ∙ by_transaction x.transaction refl)
      where
        awaits : awaited_of old ≡ awaited_in x.transaction
        awaits = ap (λ (o : Option HeldBus). awaited_in (transaction_in o)) q

        is : IsHeld old.caches old.memory x
        is = subst (λ held. IfSome held (IsHeld old.caches old.memory)) q sound.awaited

        same : x.holder ≡ holder core loc stage
        same = let e : Some x.holder ≡ Some (holder core loc stage) = sym (ap holder_in q) ∙ holds in cc

        here : x.line ≡ line
        here = (subst (λ held. IfSome held (IsPlaced old.shape old.locations)) q sound.placed).line_is ∙ ap (λ a. a.loc.0 / old.shape.words) same

        own : x.holder.core.0 ≡ core.0
        own = ap (λ a. a.core.0) same

        alone : (other v : ℕ) (s : State)
            → v ≢ line
            → core.0 ≢ other
            → tag_at core.0 v (tags_of old.caches) ≡ Some s
            → may_share s (or_invalid (tag_at other v (tags_of old.caches))) ≡ true
        alone other v s apart n there =
            let beside : v ≢ x.line = λ e. apart (e ∙ here) in
            let shares =
            coherent-apart (counted_copies_of (Some x) old.caches) old.memory
            (subst (λ held. AllCoherent (counted_copies_of held old.caches) old.memory) q sound.coherent) core.0
            other v n in
            let first : may_share (state_of_copy (copy_at old.caches core.0 v))
            (state_of_copy (copy_at (counted_copies_of (Some x) old.caches) other v))
            ≡ true =
            subst (λ o.
            may_share (state_of_copy o) (state_of_copy (copy_at (counted_copies_of (Some x) old.caches) other v))
            ≡ true)
            (counted-other old.caches x x.transaction core.0 v is.core_in is.some_set beside) shares in
            let both : may_share (state_of_copy (copy_at old.caches core.0 v)) (state_of_copy (copy_at old.caches other v)) ≡ true =
            subst (λ o. may_share (state_of_copy (copy_at old.caches core.0 v)) (state_of_copy o) ≡ true)
            (counted-other old.caches x x.transaction other v is.core_in is.some_set beside) first in
            subst (λ a. may_share a (or_invalid (tag_at other v (tags_of old.caches))) ≡ true) (sym (state-of old.caches core.0 v) ∙ ap or_invalid there)
            (subst (λ b. may_share (state_of_copy (copy_at old.caches core.0 v)) b ≡ true) (sym (state-of old.caches other v)) both)

        fills : (y : Transaction) → x.transaction ≡ Some y → y.transient ≢ SmD → IsDirtyAt i k (filled_by core.0 line y.copy.state (tags_of old.caches))
            → line_in (written_back t (victim_at old.caches core.0 line) old.memory) k ≡ line_in old.memory k
        fills y e n dirty =
            let awaited : Awaits x.holder.stage (Some y) (copy_at old.caches x.holder.core.0 x.line) =
            subst (λ o. Awaits x.holder.stage o (copy_at old.caches x.holder.core.0 x.line)) e is.awaits in
            let absent : copy_at old.caches core.0 line ≡ None =
            subst (λ c. copy_at old.caches c line ≡ None) own
            (subst (λ l. copy_at old.caches x.holder.core.0 l ≡ None) here (awaited-none x.holder.stage y _ awaited n)) in
            fill-stale t lines core.0 line y.copy.state old.caches (tags_of old.caches) old.memory k i h neat refl alone
            (tag_at-copy old.caches core.0 line ∙ ap (option_map (λ (copy : Line). copy.state)) absent) dirty

        by_transient : (y : Transaction) (τ : Transient) → x.transaction ≡ Some y → y.transient ≡ τ
            → IsDirtyAt i k (completed_in t core.0 line τ y.copy.state y.request.flushed (tags_of old.caches)).caches
            → line_in (completed_memory_in t core.0 line τ old.caches old.memory) k ≡ line_in old.memory k
        by_transient y SmD e is_so dirty = refl
        by_transient y transient e is_so dirty = fills y e (λ z. (let w : transient ≡ SmD = sym is_so ∙ z in let v : ⊥ = cc in v)) dirty

        by_transaction : (o : Option Transaction)
            → x.transaction ≡ o
            → line_in (completed_memory t core.0 line (awaited_in o) old.caches old.memory) k ≡ line_in old.memory k
        by_transaction None e = refl
        by_transaction (Some y) e =
            by_transient y y.transient e refl
            (subst (IsDirtyAt i k) (at.contents
            ∙ ap (λ w. (completed t core.0 line w (tags_of old.caches)).caches) (awaits ∙ ap awaited_in e))
            found)

-- ---- any of them

pub called-stale : (kind : ProtocolKind) (lines : ℕ) (old new : BusModel) (k i : ℕ)
    → old.rows ≡ rows_of (table_of kind)
    → IsSound old
    → IsSound new
    → AllNeat lines (contents_of old)
    → IsCalled old new → IsOwner (counted_copies new) k i → line_in (memory_of new) k ≡ line_in (memory_of old) k
called-stale kind lines old new k i rows sound after neat called owner = by_call called
  where
    facts : SettlesMemory (table_of_rows old.rows)
    facts = subst (λ r. SettlesMemory (table_of_rows r)) (sym rows) (settles kind)

    by_asks : (core : Core) (loc : Loc) (write : Bool) (request : Option BusRequest)
        → IsFree old
        → (write ≡ false → would_hit old core.0 loc.0 false ≡ false)
        → AsksFor old new core loc write request
        → line_in (memory_of new) k ≡ line_in (memory_of old) k
    by_asks core loc true request free misses at = ap (λ m. line_in m k) at.memory
    by_asks core loc false request free misses at = load-asks lines old new core loc request k i facts sound after neat free (misses refl) at owner

    by_call : IsCalled old new → line_in (memory_of new) k ≡ line_in (memory_of old) k
    by_call (loads core loc word report may at) =
        access-call lines old new core loc false k i facts sound neat may at.memory at.contents at.held.awaited_is owner
    by_call (writes core loc word report may at) =
        access-call lines old new core loc true k i facts sound neat may at.memory at.contents at.held.awaited_is owner
    by_call (asks core loc write request free misses at) = by_asks core loc write request free misses at
    by_call (completes core loc stage report holds quiet at) = complete-call lines old new core loc stage report k i facts sound neat holds quiet at owner
    by_call (keeps same) = ap (λ m. line_in m k) same
