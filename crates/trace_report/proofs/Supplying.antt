-- Where a word is found: what each use of the caches says of it, the copies before it, and the words that are seen.
use Rattle.trace_report.proofs.Vocabulary.{arith, ◌≡◌, ◌≢◌, ◌∙◌, ℕ, zero, suc, ◌+◌, ◌<◌, ◌/◌, ◌||◌, Bool, true, false, if◌then◌else◌, List}
use Rattle.trace_report.proofs.Vocabulary.{[], ◌∷◌, length, Option, Some, None, IfSome, option_map, is_some, slice_index_or, inl, inr, refl}
use Rattle.trace_report.proofs.Vocabulary.{sym, ap, subst, Litmus, chosen, Loc, Core, MemoryAccess, NoAccess, Writes, access_of, access_by}
use Rattle.trace_report.proofs.Vocabulary.{step_access, load_access, locked_access, next_of, action_of, filter, writes_to, Instr, Action}
use Rattle.trace_report.proofs.Vocabulary.{Load, Lock, Entry, Step, Drain, Holder, Free, HeldBy, needs_bus, Bus, Choice, Table}
use Rattle.trace_report.proofs.Vocabulary.{table_of, ProtocolKind, table_of_rows, rows_of, snoop_column, TagSets, tag_in, sets_of, tag_at}
use Rattle.trace_report.proofs.Vocabulary.{or_invalid, transient_of, Request, GetS, GetM, Transient, IsD, ImD, SmD, I, E, O, M, Awaited}
use Rattle.trace_report.proofs.Vocabulary.{requesting, completed, completed_in, next_in_place, awaited_as, request_for, whole_in, asked_for}
use Rattle.trace_report.proofs.Vocabulary.{Caches, Used, Through, CacheUse, asking_by, completing_by, hits_by}
use Rattle.trace_report.proofs.Vocabulary.{IsUseFor, Running, new_machine, machine_use, machine_after, after_choices}
use Rattle.trace_report.proofs.Vocabulary.{AllNeat, found-valid, number_of_lines, line_state, state_with, awaited_at, bus_holder_as}
use Rattle.trace_report.proofs.Vocabulary.{is_newer, is_newer_in, own_word, own_words_from, Source, source_of, source_in, supplied_by}
use Rattle.trace_report.proofs.Vocabulary.{SourcesAreTold, core_of}
use Rattle.std.specs.Prelude.{◌⊎◌}
use Rattle.protocol_tables.specs.Laws.{is_dirty}
use Rattle.protocol_tables.specs.declared.kind.ProtocolKind.TheVariants.{Msi}
use Rattle.protocol_tables.specs.declared.state.State as protocol
use Rattle.cache_set.specs.CacheTags.{first_from, first_supplier, supplies_in}
use Rattle.snoop_bus.specs.Asks.{moved_in, supplier_in}
use Rattle.multiprocessor.specs.declared.accesses.CacheUse.TheVariants as uses
use Rattle.tso_terms.specs.declared.choice.Bus.TheVariants as either
use Rattle.trace_report.specs.Supplied.{reads_from, reads_at, action_reads}
use Rattle.trace_report.specs.SupplyLaws.{line_accessed, request_made, IsFoundBy, IsFoundAt, MemoryIsSeen, machine_by}
use Rattle.trace_report.specs.declared.supplied.Source.TheVariants as source
use Rattle.trace_report.proofs.InPlace.{is_write_access}
use Rattle.trace_report.proofs.VictimsLeave.{MayComplete}
use Rattle.trace_report.proofs.Awaiting.{MayMake, HolderMayMake}
use Rattle.trace_report.proofs.UsesOnBus.{UsesOn, made, unused, begun, ended}
use Rattle.trace_report.proofs.FlushesTold.{uses-of}
use Rattle.trace_report.proofs.Kept.{IsKept, kept-first, kept-along, rows-kept}
use Rattle.trace_report.proofs.GaveWay.{same-test}

-- ---- a request

-- what a core's line is in once it has asked tells whether it has the line
asked-absent : (request : Request) (copy : Option protocol.State) (x : Transient)
    → copy ≢ Some I
    → transient_of (or_invalid copy) request ≡ Some x
    → x ≢ SmD
    → copy ≡ None
asked-absent request None x valid q n = refl
asked-absent request (Some I) x valid q n = absurd (valid refl)
asked-absent GetS (Some s) x valid q n = absurd (let z : ⊥ = cc in z)
asked-absent GetM (Some E) x valid q n = absurd (let z : ⊥ = cc in z)
asked-absent GetM (Some M) x valid q n = absurd (let z : ⊥ = cc in z)
asked-absent GetM (Some s) x valid q n = absurd (n (let z : x ≡ SmD = cc in z))

asked-present : (request : Request) (copy : Option protocol.State) (x : Transient)
    → transient_of (or_invalid copy) request ≡ Some x
    → x ≡ SmD
    → is_some copy ≡ true
asked-present GetS None x q is = absurd (let z : ⊥ = cc in z)
asked-present GetM None x q is = absurd (let z : ⊥ = cc in z)
asked-present request (Some s) x q is = refl

unasked-present : (request : Request) (copy : Option protocol.State) → transient_of (or_invalid copy) request ≡ None → is_some copy ≡ true
unasked-present GetS None q = absurd (let z : ⊥ = cc in z)
unasked-present GetM None q = absurd (let z : ⊥ = cc in z)
unasked-present request (Some s) q = refl

module _ (c : Caches) (holder : Holder) (a : Choice) (what : MemoryAccess) where
  -- the word is found where it is told, if it is told
  abbrev IsFoundIf : CacheUse → Type 0
  IsFoundIf how = IfSome (source_in how) (IsFoundBy c holder a what how)

  module _ (line : ℕ) (accessed : line_accessed c what ≡ Some line) where
    -- where this request was made for the line, in this state of it
    request-found : (how : CacheUse) (request : Request) (x : Transient)
        → request_made how ≡ Some (requesting (table_of_rows c.rows) request line c.contents x)
        → holder ≡ Free
        → (x ≢ SmD → tag_at (chosen a) line c.contents ≡ None) → (x ≡ SmD → is_some (tag_at (chosen a) line c.contents) ≡ true)
        → IsFoundBy c holder a what how (source_of (requesting (table_of_rows c.rows) request line c.contents x).supplier)
    unfolding requesting
    request-found how request x sent free absent present = by_transient x sent absent present
      where
        first : Option Core
        first = first_supplier 0 (snoop_column (table_of_rows c.rows) request) line c.contents

        by_first : (x : Transient) (o : Option Core) → first ≡ o → request_made how ≡ Some (requesting (table_of_rows c.rows) request line c.contents x)
            → tag_at (chosen a) line c.contents ≡ None → IsFoundBy c holder a what how (source_of (Some (supplier_in o)))
        by_first x None q sent none = record {
          resting = free;
          request = requesting (table_of_rows c.rows) request line c.contents x;
          made = sent;
          accessed = accessed;
          absent = none;
          first = q;
        }
        by_first x (Some core) q sent none = record {
          resting = free;
          request = requesting (table_of_rows c.rows) request line c.contents x;
          made = sent;
          accessed = accessed;
          absent = none;
          first = q;
        }

        by_transient : (x : Transient) → request_made how ≡ Some (requesting (table_of_rows c.rows) request line c.contents x)
            → (x ≢ SmD → tag_at (chosen a) line c.contents ≡ None) → (x ≡ SmD → is_some (tag_at (chosen a) line c.contents) ≡ true)
            → IsFoundBy c holder a what how (source_of (moved_in x (supplier_in first)))
        by_transient SmD sent absent present = record { line = line; accessed = accessed; copy = present refl }
        by_transient IsD sent absent present = by_first IsD first refl sent (absent (λ q. let z : ⊥ = cc in z))
        by_transient ImD sent absent present = by_first ImD first refl sent (absent (λ q. let z : ⊥ = cc in z))

    -- an access that is made whole
    whole-found : (write : Bool) → (next_in_place (table_of_rows c.rows) write (tag_at (chosen a) line c.contents) ≡ None → holder ≡ Free)
        → IsFoundIf (Through
        (whole_in (table_of_rows c.rows) write (chosen a) line c.contents (tag_at (chosen a) line c.contents)
        (next_in_place (table_of_rows c.rows) write (tag_at (chosen a) line c.contents))).report)
    whole-found write free =
        by_next (tag_at (chosen a) line c.contents) (next_in_place (table_of_rows c.rows) write (tag_at (chosen a) line c.contents)) refl refl
      where
        t : Table
        t = table_of_rows c.rows

        in-place : (b : Bool) (copy : Option protocol.State) (next : protocol.State) → next_in_place t b copy ≡ Some next → is_some copy ≡ true
        in-place b None next q = absurd (let z : ⊥ = cc in z)
        in-place b (Some s) next q = refl

        none-absent : (b : Bool) (copy : Option protocol.State) → next_in_place t b copy ≡ None → awaited_as b copy ≢ SmD → copy ≡ None
        none-absent b None q n = refl
        none-absent false (Some s) q n = absurd (let z : ⊥ = cc in z)
        none-absent true (Some s) q n = absurd (n refl)

        none-present : (b : Bool) (copy : Option protocol.State) → awaited_as b copy ≡ SmD → is_some copy ≡ true
        none-present false copy e = absurd (let z : ⊥ = cc in z)
        none-present true None e = absurd (let z : ⊥ = cc in z)
        none-present true (Some s) e = refl

        by_next : (copy next : Option protocol.State)
            → tag_at (chosen a) line c.contents ≡ copy
            → next_in_place t write (tag_at (chosen a) line c.contents) ≡ next
            → IsFoundIf (Through (whole_in t write (chosen a) line c.contents copy next).report)
        by_next copy (Some next) copy_is is = record { line = line; accessed = accessed; copy = in-place write (tag_at (chosen a) line c.contents) next is }
        by_next copy None copy_is is =
            let none : next_in_place t write copy ≡ None = sym (ap (next_in_place t write) copy_is) ∙ is in
            request-found (Through (whole_in t write (chosen a) line c.contents copy None).report) (request_for write) (awaited_as write copy) refl (free is)
            (λ n. copy_is ∙ none-absent write copy none n) (λ e. ap is_some copy_is ∙ none-present write copy e)

    -- an ask
    ask-found : (request : Request) → holder ≡ Free → tag_at (chosen a) line c.contents ≢ Some I
        → IsFoundIf
        (uses.Asked (option_map (requesting (table_of_rows c.rows) request line c.contents) (asked_for request (chosen a) line c.contents)))
    ask-found request free valid = by_transient (asked_for request (chosen a) line c.contents) refl
      where
        by_transient : (o : Option Transient)
            → asked_for request (chosen a) line c.contents ≡ o
            → IsFoundIf (uses.Asked (option_map (requesting (table_of_rows c.rows) request line c.contents) o))
        by_transient None q = record { line = line; accessed = accessed; copy = unasked-present request (tag_at (chosen a) line c.contents) q }
        by_transient (Some x) q =
            request-found (uses.Asked (Some (requesting (table_of_rows c.rows) request line c.contents x))) request x refl free
            (λ n. asked-absent request (tag_at (chosen a) line c.contents) x valid q n) (λ e. asked-present request (tag_at (chosen a) line c.contents) x q e)

    -- a completion
    completed-found : holder ≡ HeldBy a
        → MayComplete c.awaited (chosen a) line c.contents
        → IsFoundIf (Through (completed (table_of_rows c.rows) (chosen a) line c.awaited c.contents).report)
    completed-found held may = by_awaited c.awaited refl may
      where
        by_transient : (y : Transient) (x : Awaited)
            → is_some c.awaited ≡ true
            → (y ≢ SmD → tag_at (chosen a) line c.contents ≡ None)
            → (y ≡ SmD → is_some (tag_at (chosen a) line c.contents) ≡ true)
            → IsFoundIf (Through (completed_in (table_of_rows c.rows) (chosen a) line y x.state x.flushed c.contents).report)
        by_transient SmD x some absent present = record { line = line; accessed = accessed; copy = present refl }
        by_transient _ x some absent present = record {
          holds = held;
          line = line;
          accessed = accessed;
          absent = absent (λ q. let z : ⊥ = cc in z);
          awaited = some;
        }

        by_awaited : (w : Option Awaited)
            → c.awaited ≡ w
            → MayComplete w (chosen a) line c.contents
            → IsFoundIf (Through (completed (table_of_rows c.rows) (chosen a) line w c.contents).report)
        by_awaited None q may = record { line = line; accessed = accessed; copy = may }
        by_awaited (Some x) q may = by_transient x.transient x (ap is_some q) may.absent may.present

-- ---- a choice on either bus

abbrev FoundOf : Caches → Holder → Choice → MemoryAccess → Used → Type 0
FoundOf c holder a what u = IsFoundIf c holder a what u.how

-- an access that misses needs the bus
missing-needs : (what : MemoryAccess) (hits : Bool) → what ≢ NoAccess → needs_bus what hits ≡ false → hits ≢ false
missing-needs NoAccess hits some q e = some refl
missing-needs what hits some q e = let z : true ≡ false = subst (λ b. needs_bus what b ≡ false) e q in let y : ⊥ = cc in y

use-found : (on : Bus) (c : Caches) (holder next : Holder) (a : Choice) (what : MemoryAccess) (u : Used) → IsUseFor c (chosen a) what u
    → ((on ≡ either.Atomic) × (holder ≡ Free) × (next ≡ Free)) ⊎ (needs_bus what (hits_by c (chosen a) what) ≡ false)
    → FoundOf c holder a what u
use-found on c holder next a NoAccess u (inl is) why = subst (FoundOf c holder a NoAccess) (sym is) tt
use-found on c holder next a NoAccess u (inr is) why = subst (FoundOf c holder a NoAccess) (sym is) refl
use-found on c holder next a what u is (inl free) =
    subst (FoundOf c holder a what) (sym is) (whole-found c holder a what _ refl (is_write_access what) (λ none. free.1))
use-found on c holder next a what u is (inr hit) =
    subst (FoundOf c holder a what) (sym is)
    (whole-found c holder a what _ refl (is_write_access what)
    (λ none.
    absurd (missing-needs what (hits_by c (chosen a) what) (λ q. (let z : ⊥ = cc in z)) hit (ap is_some none))))

asks-found : (lines : ℕ) (c : Caches) (holder : Holder) (a : Choice) (what : MemoryAccess) → what ≢ NoAccess → holder ≡ Free → AllNeat lines c.contents
    → FoundOf c holder a what (asking_by c (chosen a) what)
asks-found lines c holder a NoAccess some free neat = absurd (some refl)
asks-found lines c holder a what some free neat =
    ask-found c holder a what _ refl (request_for (is_write_access what)) free
    (λ q. found-valid lines _ I (sets_of c.contents (chosen a)) (neat (chosen a)) q refl)

completes-found : (c : Caches) (holder : Holder) (a : Choice) (what : MemoryAccess)
    → what ≢ NoAccess
    → holder ≡ HeldBy a
    → MayMake c (chosen a) what
    → FoundOf c holder a what (completing_by c (chosen a) what)
completes-found c holder a NoAccess some held may = absurd (some refl)
completes-found c holder a what some held may = completed-found c holder a what _ refl held may

choice-found : (on : Bus) (lines : ℕ) (c : Caches) (a : Choice) (before after : Choice → MemoryAccess)
    (holder next : Holder) (u : Used)
    → HolderMayMake before holder c
    → AllNeat lines c.contents → UsesOn on c a before after holder next u → FoundOf c holder a (before a) u
choice-found on lines c a before after holder next u may neat (made it why stays) = use-found on c holder next a (before a) u it why
choice-found on lines c a before after holder next u may neat (unused is stays) = subst (FoundOf c holder a (before a)) (sym is) tt
choice-found on lines c a before after holder next u may neat (begun split is some free held same) =
    subst (FoundOf c holder a (before a)) (sym is) (asks-found lines c holder a (before a) some free neat)
choice-found on lines c a before after holder next u may neat (ended split is some held rest) =
    subst (FoundOf c holder a (before a)) (sym is) (completes-found c holder a (before a) some held (subst (λ x. HolderMayMake before x c) held may))

found-if : (m : Running) (choice : Choice)
    → IsKept m
    → IfSome (source_in (machine_use m choice).how) (IsFoundAt m choice)
found-if m choice k =
    choice-found m.bus (number_of_lines m) m.statistics.caches choice (access_of m.test m.depth m.state.flat)
    (access_of m.test m.depth (machine_after m choice).state.flat)
    m.state.holder (machine_after m choice).state.holder (machine_use m choice)
    k.may k.neat (uses-of m choice k.sound).0

found-at : (m : Running) (choice : Choice) (source : Source) → IsKept m → supplied_by m choice ≡ Some source → IsFoundAt m choice source
found-at m choice source k is =
    subst (λ o. IfSome o (IsFoundAt m choice)) (by_reads (reads_from m.test (core_of m.state.flat (chosen choice)).place choice) is) (found-if m choice k)
  where
    told : Option Source
    told = source_in (machine_use m choice).how

    by_reads : (b : Bool) → (if b then told else None) ≡ Some source → told ≡ Some source
    by_reads true q = q
    by_reads false q = absurd (let z : ⊥ = cc in z)

-- ---- the core that supplies

-- the first core that is so, from this number on, is one of so many, and so
record IsFirst (is : Option protocol.State → Bool) (first line : ℕ) (caches : List TagSets) (core : Core) : Type 0 where
  place : ℕ
  number : core.0 ≡ first + place
  within : place < length caches
  copy : is (tag_at place line caches) ≡ true

abbrev number_in : Option Core → ℕ
number_in None = 0
number_in (Some core) = core.0

first-is : (is : Option protocol.State → Bool) (first line : ℕ) (caches : List TagSets) (core : Core)
    → first_from first is line caches ≡ Some core
    → IsFirst is first line caches core
first-is is first line [] core q = absurd (let z : ⊥ = cc in z)
first-is is first line (sets ∷ caches) core q = by_test (is (tag_in sets line)) refl (λ later. first-is is (first + 1) line caches core later) q
  where
    by_test : (b : Bool)
        → is (tag_in sets line) ≡ b
        → (first_from (first + 1) is line caches ≡ Some core → IsFirst is (first + 1) line caches core)
        → (if b then Some (record { 0 = first }) else first_from (first + 1) is line caches) ≡ Some core
        → IsFirst is first line (sets ∷ caches) core
    by_test true e rest q = let same : first ≡ core.0 = ap number_in q in record { place = 0; number = omega (arith, same); within = omega arith; copy = e }
    by_test false e rest q =
        let f = rest q in
        let n = f.number in
        let w = f.within in
        record { place = suc f.place; number = omega (arith, n); within = omega (arith, w); copy = f.copy }

-- a core that has no copy isn't one that supplies
others-supply : (m : Running) (choice : Choice) (other : Core)
    → IsKept m
    → IsFoundAt m choice (source.Other other)
    → (other.0 ≢ chosen choice) × (other.0 < length m.test.programs)
others-supply m choice other k found =
    let f = first-is (supplies_in (snoop_column (table_of_rows caches.rows) found.request.request)) 0 found.request.line caches.contents other found.first in
    let number = f.number in
    let same : other.0 ≡ f.place = omega (arith, number) in
    let within = f.within in
    let as_many : length caches.contents ≡ length m.test.programs = sym k.sound.size ∙ k.cores in (
      λ q. apart (supplies_in (snoop_column (table_of_rows caches.rows) found.request.request)) (tag_at f.place found.request.line caches.contents) refl f.copy
          (ap (λ (i : ℕ). tag_at i found.request.line caches.contents) (sym same ∙ q) ∙ found.absent),
      omega (arith, same, within, as_many),
    )
  where
    caches : Caches
    caches = m.statistics.caches

    apart : (is : Option protocol.State → Bool) (copy : Option protocol.State) → is None ≡ false → is copy ≡ true → copy ≡ None → ⊥
    apart is copy never sends none = let z : true ≡ false = sym sends ∙ (ap is none ∙ never) in let y : ⊥ = cc in y

-- ---- memory's own words

-- where no copy is so, none of them is
none-first : (is : Option protocol.State → Bool) (first line core : ℕ) (caches : List TagSets)
    → first_from first is line caches ≡ None
    → is None ≡ false
    → is (tag_at core line caches) ≡ false
none-first is first line core [] q never = never
none-first is first line core (sets ∷ caches) q never =
    by_test (is (tag_in sets line)) refl (λ n later. none-first is (first + 1) line n caches later never) core q
  where
    by_test : (b : Bool)
        → is (tag_in sets line) ≡ b
        → ((n : ℕ) → first_from (first + 1) is line caches ≡ None → is (tag_at n line caches) ≡ false)
        → (n : ℕ) → (if b then Some (record { 0 = first }) else first_from (first + 1) is line caches) ≡ None
        → is (tag_at n line (sets ∷ caches)) ≡ false
    by_test true e rest n q = absurd (let z : ⊥ = cc in z)
    by_test false e rest zero q = e
    by_test false e rest (suc n) q = rest n q

-- a copy that doesn't supply is not newer than memory, in the table of each protocol
abbrev SuppliesNot : Request → ProtocolKind → Option protocol.State → Type 0
SuppliesNot request kind copy = supplies_in (snoop_column (table_of_rows (rows_of (table_of kind))) request) copy ≡ false

not-dirty : (request : Request) (kind : ProtocolKind) (copy : Option protocol.State) → SuppliesNot request kind copy → is_dirty (or_invalid copy) ≡ false
not-dirty GetS Msi (Some M) q = absurd (let z : ⊥ = cc in z)
not-dirty GetM Msi (Some M) q = absurd (let z : ⊥ = cc in z)
not-dirty _ _ (Some M) q = absurd (let z : ⊥ = cc in z)
not-dirty _ _ (Some O) q = absurd (let z : ⊥ = cc in z)
not-dirty _ _ _ q = refl

none-is-newer : (m : Running) (line cores : ℕ) → ((core : ℕ) → is_newer (line_state m core line) ≡ false) → is_newer_in m line cores ≡ false
none-is-newer m line zero none = refl
none-is-newer m line (suc last) none = ap (λ (b : Bool). b || is_newer_in m line last) (none last) ∙ none-is-newer m line last none

-- the word at a place of those that follow
word-there : (m : Running) (first i : ℕ) (before seen : List ℕ) → i < length before → i < length seen
    → slice_index_or (own_words_from m first before seen) i 0 ≡ own_word m (first + i) (slice_index_or before i 0) (slice_index_or seen i 0)
word-there m first i [] seen p q = absurd (omega (arith, p))
word-there m first i (b ∷ before) [] p q = absurd (omega (arith, q))
word-there m first zero (b ∷ before) (s ∷ seen) p q = let here : first ≡ first + 0 = omega arith in ap (λ (k : ℕ). own_word m k b s) here
word-there m first (suc i) (b ∷ before) (s ∷ seen) p q =
    let there : (first + 1) + i ≡ first + suc i = omega arith in
    word-there m (first + 1) i before seen (omega (arith, p)) (omega (arith, q))
    ∙ ap (λ (k : ℕ). own_word m k (slice_index_or before i 0) (slice_index_or seen i 0)) there

memory-seen : (kind : ProtocolKind) (m : Running) (choice : Choice) → m.statistics.caches.rows ≡ rows_of (table_of kind) → MemoryIsSeen m choice
memory-seen kind m choice rows loc before found accessed room there =
    let seen = m.state.flat.memory in
    let line = loc / m.statistics.caches.shape.words in
    let both : Some found.request.line ≡ Some line = sym found.accessed ∙ accessed in
    let same : found.request.line ≡ line = cc in
    let quiet : (core : ℕ)
    → supplies_in (snoop_column (table_of_rows (rows_of (table_of kind))) found.request.request) (tag_at core line m.statistics.caches.contents)
    ≡ false =
    subst (λ r. (core : ℕ) → supplies_in (snoop_column (table_of_rows r) found.request.request) (tag_at core line m.statistics.caches.contents) ≡ false) rows
    (subst (λ l.
    (core : ℕ)
    → supplies_in (snoop_column (table_of_rows m.statistics.caches.rows) found.request.request) (tag_at core l m.statistics.caches.contents)
    ≡ false)
    same
    (λ core.
    none-first
    (supplies_in (snoop_column (table_of_rows m.statistics.caches.rows) found.request.request)) 0 found.request.line
    core m.statistics.caches.contents found.first refl)) in
    let newest : is_newer_in m line (length m.test.programs) ≡ false =
    none-is-newer m line (length m.test.programs)
    (λ core.
    settled core line
    ∙ not-dirty found.request.request kind (tag_at core line m.statistics.caches.contents) (quiet core)) in
    word-there m 0 loc before seen room there
    ∙ (ap (λ (k : ℕ). own_word m k (slice_index_or before loc 0) (slice_index_or seen loc 0)) (let z : 0 + loc ≡ loc = omega arith in z)
    ∙ ap (λ (b : Bool). if b then slice_index_or before loc 0 else slice_index_or seen loc 0) newest)
  where
    -- nothing is awaited, so each line is in the state of its copy
    settled : (core line : ℕ) → is_newer (line_state m core line) ≡ is_dirty (or_invalid (tag_at core line m.statistics.caches.contents))
    settled core line =
        ap (λ h.
        is_newer (state_with
        (awaited_at (bus_holder_as m.test m.depth m.state.flat m.statistics.caches.awaited h) m.statistics.caches.shape.words core line)
        (tag_at core line m.statistics.caches.contents)))
        found.resting

-- ---- what a choice reads

load-reads : (loc to : Loc) (q : List Entry) → load_access loc q ≢ Writes to
load-reads loc to [] is = let z : ⊥ = cc in z
load-reads loc to (p ∷ ps) is = let z : ⊥ = cc in z

lock-reads : (loc to : Loc) (q : List Entry) → locked_access loc q ≢ Writes to
lock-reads loc to [] is = let z : ⊥ = cc in z
lock-reads loc to (p ∷ ps) is = let z : ⊥ = cc in z

action-reads : (depth : ℕ) (a : Action) (q : List Entry) (loc : Loc) (o : Option Source) (s : Source)
    → (if action_reads a then o else None) ≡ Some s
    → access_by depth a q ≢ Writes loc
action-reads depth (Load reg from) q loc o s is = load-reads from loc (filter (writes_to from.0) q)
action-reads depth (Lock from reg update) q loc o s is = lock-reads from loc q
action-reads depth _ q loc o s is = absurd (let z : ⊥ = cc in z)

step-reads : (depth : ℕ) (i : Option Instr) (q : List Entry) (loc : Loc) (o : Option Source) (s : Source)
    → (if reads_at i then o else None) ≡ Some s
    → step_access depth i q ≢ Writes loc
step-reads depth None q loc o s is = absurd (let z : ⊥ = cc in z)
step-reads depth (Some i) q loc o s is = action-reads depth (action_of i) q loc o s is

choice-reads : (m : Running) (choice : Choice) (s : Source) (loc : Loc)
    → supplied_by m choice ≡ Some s
    → access_of m.test m.depth m.state.flat choice ≢ Writes loc
choice-reads m (Step core) s loc is =
    step-reads m.depth (next_of m.test m.state.flat core.0) (core_of m.state.flat core.0).pending loc
    (source_in (machine_use m (Step core)).how) s is
choice-reads m (Drain core) s loc is = absurd (let z : ⊥ = cc in z)

-- ---- along the choices

rows-along : (m : Running) (choices : List Choice) → (after_choices m choices).statistics.caches.rows ≡ m.statistics.caches.rows
rows-along m [] = refl
rows-along m (c ∷ cs) = rows-along (machine_after m c) cs ∙ rows-kept m c

pub sources-told : SourcesAreTold
sources-told = record {
  found = λ table c t choices choice source test words keeps is.
      found-at (machine_by table c t choices) choice source (kept-along (new_machine table c t) choices (kept-first table c t test words keeps)) is;
  others = λ table c t choices choice other test words keeps is.
      let m = machine_by table c t choices in
      let kept = kept-along (new_machine table c t) choices (kept-first table c t test words keeps) in
      let all = others-supply m choice other kept (found-at m choice (source.Other other) kept is) in
      (all.0, subst (λ (x : Litmus). other.0 < length x.programs) (same-test (new_machine table c t) choices) all.1);
  reads = choice-reads;
  words = λ kind c t choices choice. memory-seen kind (machine_by (table_of kind) c t choices) choice (rows-along (new_machine (table_of kind) c t) choices);
}
