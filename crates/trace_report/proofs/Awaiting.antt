-- A line that its core awaits isn't in the core's cache, but for an upgrade: so another line may give way to it. What a use of
-- the caches on either bus makes of them.
use Rattle.trace_report.proofs.Vocabulary.{◌≡◌, ◌≢◌, ◌∙◌, ◌<◌, ◌/◌, ℕ, Bool, true, false, List, Option, Some, None, is_some, inl, inr, refl}
use Rattle.trace_report.proofs.Vocabulary.{sym, ap, subst, MemoryAccess, NoAccess, Reads, Writes, Locks, Holder, HeldBy, chosen, Choice}
use Rattle.trace_report.proofs.Vocabulary.{Table, transient_of, I, E, M, Request, GetS, GetM, Transient, Geometry, table_of_rows, TagSets}
use Rattle.trace_report.proofs.Vocabulary.{tag_in, sets_of, snoop_column, Awaited, tag_at, or_invalid, awaiting, asking, asked_caches_in}
use Rattle.trace_report.proofs.Vocabulary.{Caches, Used, is_awaited, asking_by, completing_by, Unused, IsUseFor, KeepsNoCopyInI, AllNeat}
use Rattle.trace_report.proofs.Vocabulary.{found-valid, all-requested, own-kept, at_access, whole_by, Bus, request_for}
use Rattle.std.specs.Option.{option_map}
use Rattle.snoop_bus.specs.CacheContents.{evicted_by}
use Rattle.multiprocessor.specs.declared.accesses.CacheUse.{CacheUse}
use Rattle.trace_report.specs.Steps.{left_in}
use Rattle.protocol_tables.specs.declared.state.State.{State}
use Rattle.trace_report.proofs.InPlace.{wrote_in, asking-clean, IsStill, none-still, use-still, is_write_access}
use Rattle.trace_report.proofs.VictimsLeave.{MayComplete, ComesIn, modified, completed-neat, completed-fills, completed-left, whole-neat}
use Rattle.trace_report.proofs.VictimsLeave.{whole-fills, whole-left}
use Rattle.trace_report.proofs.UsesOnBus.{Stays, UsesOn, made, unused, begun, ended}

-- what is awaited may come in, for the line of this access
abbrev pub MayMake : Caches → ℕ → MemoryAccess → Type 0
MayMake c core NoAccess = Unit {0}
MayMake c core (Reads loc) = MayComplete c.awaited core (loc.0 / c.shape.words) c.contents
MayMake c core (Writes loc) = MayComplete c.awaited core (loc.0 / c.shape.words) c.contents
MayMake c core (Locks loc) = MayComplete c.awaited core (loc.0 / c.shape.words) c.contents

-- for the access of the action that holds the bus
abbrev pub HolderMayMake : (Choice → MemoryAccess) → Holder → Caches → Type 0
HolderMayMake access (HeldBy choice) c = MayMake c (chosen choice) (access choice)
HolderMayMake access _ c = Unit {0}

-- the access is to one of so many lines, of so many words
abbrev pub IsWithin : ℕ → ℕ → MemoryAccess → Type 0
IsWithin lines words NoAccess = Unit {0}
IsWithin lines words (Reads loc) = loc.0 / words < lines
IsWithin lines words (Writes loc) = loc.0 / words < lines
IsWithin lines words (Locks loc) = loc.0 / words < lines

abbrev pub NeatAfter : ℕ → Used → Type 0
NeatAfter lines u = AllNeat lines u.caches.contents

-- the line of the access comes in, and a dirty one gives way to it
pub record Fills (c : Caches) (core : ℕ) (what : MemoryAccess) (how : CacheUse) : Type 0 where
  pub came : ℕ
  pub accessed : at_access None (λ loc write. Some (loc.0 / c.shape.words)) what ≡ Some came
  pub line : ComesIn (table_of_rows c.rows) core came c.contents
  pub left : left_in how ≡ evicted_by (table_of_rows c.rows) core came c.contents

abbrev pub FillsIf : Caches → ℕ → MemoryAccess → Used → Type 0
FillsIf c core what u = wrote_in u.how ≡ true → Fills c core what u.how

-- ---- it is asked for

awaits : (t : Table) (request : Request) (core line : ℕ) (caches : List TagSets) (o : Option State)
    → KeepsNoCopyInI t
    → tag_at core line caches ≡ o
    → o ≢ Some I
    → MayComplete (option_map (awaiting t request line caches) (transient_of (or_invalid o) request)) core line
    (asked_caches_in t request core line (transient_of (or_invalid o) request) caches)
unfolding awaiting
awaits t GetS core line caches None keeps q valid =
    record {
      valid = keeps.filled _;
      absent = λ n. ap (λ (sets : TagSets). tag_in sets line) (own-kept core _ caches) ∙ q;
      present = λ e. absurd (let z : ⊥ = cc in z);
    }
awaits t GetM core line caches None keeps q valid =
    record {
      valid = modified;
      absent = λ n. ap (λ (sets : TagSets). tag_in sets line) (own-kept core _ caches) ∙ q;
      present = λ e. absurd (let z : ⊥ = cc in z);
    }
awaits t GetS core line caches (Some I) keeps q valid = absurd (valid refl)
awaits t GetM core line caches (Some I) keeps q valid = absurd (valid refl)
awaits t GetS core line caches _ keeps q valid = ap is_some q
awaits t GetM core line caches (Some E) keeps q valid = ap is_some q
awaits t GetM core line caches (Some M) keeps q valid = ap is_some q
awaits t GetM core line caches _ keeps q valid =
    record {
      valid = modified;
      absent = λ n. absurd (n refl);
      present = λ e. ap (λ (sets : TagSets). is_some (tag_in sets line)) (own-kept core _ caches) ∙ ap is_some q;
    }

asking-may : (lines : ℕ) (t : Table) (request : Request) (core line : ℕ) (caches : List TagSets) → KeepsNoCopyInI t → AllNeat lines caches
    → MayComplete (asking t request core line caches).awaited core line (asking t request core line caches).caches
asking-may lines t request core line caches keeps h =
    awaits t request core line caches (tag_at core line caches) keeps refl (λ q. found-valid lines line I (sets_of caches core) (h core) q refl)

asked-neat : (lines : ℕ) (t : Table) (request : Request) (core line : ℕ) (o : Option Transient) (caches : List TagSets)
    → AllNeat lines caches
    → AllNeat lines (asked_caches_in t request core line o caches)
asked-neat lines t request core line None caches h = h
asked-neat lines t request core line (Some x) caches h = all-requested lines (snoop_column t request) core line caches h

asks-may : (lines : ℕ) (c : Caches) (core : ℕ) (what : MemoryAccess)
    → KeepsNoCopyInI (table_of_rows c.rows)
    → AllNeat lines c.contents
    → MayMake (asking_by c core what).caches core what
asks-may lines c core NoAccess keeps h = tt
asks-may lines c core what keeps h = asking-may lines (table_of_rows c.rows) (request_for (is_write_access what)) core _ c.contents keeps h

asks-neat : (lines : ℕ) (c : Caches) (core : ℕ) (what : MemoryAccess) → AllNeat lines c.contents → NeatAfter lines (asking_by c core what)
asks-neat lines c core NoAccess h = h
asks-neat lines c core what h = asked-neat lines (table_of_rows c.rows) (request_for (is_write_access what)) core _ _ c.contents h

-- ---- it is completed

completes-neat : (lines : ℕ) (c : Caches) (core : ℕ) (what : MemoryAccess)
    → IsWithin lines c.shape.words what
    → MayMake c core what
    → AllNeat lines c.contents
    → NeatAfter lines (completing_by c core what)
completes-neat lines c core NoAccess l may h = h
completes-neat lines c core _ l may h = completed-neat lines (table_of_rows c.rows) core _ c.awaited c.contents l may h

completes-fills : (c : Caches) (core : ℕ) (what : MemoryAccess) → MayMake c core what → FillsIf c core what (completing_by c core what)
completes-fills c core NoAccess may dirty = absurd (let z : ⊥ = cc in z)
completes-fills c core _ may dirty = record {
  came = _;
  accessed = refl;
  line = completed-fills (table_of_rows c.rows) core _ c.awaited c.contents may dirty;
  left = completed-left (table_of_rows c.rows) core _ c.awaited c.contents dirty;
}

-- ---- it is made whole

use-neat : (lines : ℕ) (c : Caches) (core : ℕ) (what : MemoryAccess) (u : Used)
    → IsUseFor c core what u
    → IsWithin lines c.shape.words what
    → KeepsNoCopyInI (table_of_rows c.rows)
    → AllNeat lines c.contents
    → NeatAfter lines u
use-neat lines c core NoAccess u (inl is) within keeps h = subst (NeatAfter lines) (sym is) h
use-neat lines c core NoAccess u (inr is) within keeps h = subst (NeatAfter lines) (sym is) h
use-neat lines c core what u is within keeps h =
    subst (NeatAfter lines) (sym is) (whole-neat (table_of_rows c.rows) (is_write_access what) core _ c.contents keeps lines within h)

whole-fills-by : (c : Caches) (core loc : ℕ) (write : Bool) (what : MemoryAccess)
    → KeepsNoCopyInI (table_of_rows c.rows)
    → at_access None (λ at write. Some (at.0 / c.shape.words)) what ≡ Some (loc / c.shape.words)
    → FillsIf c core what (whole_by c core loc write)
whole-fills-by c core loc write what keeps at dirty = record {
  came = loc / c.shape.words;
  accessed = at;
  line = whole-fills (table_of_rows c.rows) write core (loc / c.shape.words) c.contents keeps dirty;
  left = whole-left (table_of_rows c.rows) write core (loc / c.shape.words) c.contents keeps dirty;
}

use-fills : (c : Caches) (core : ℕ) (what : MemoryAccess) (u : Used) → IsUseFor c core what u → KeepsNoCopyInI (table_of_rows c.rows) → FillsIf c core what u
use-fills c core NoAccess u (inl is) keeps = subst (FillsIf c core NoAccess) (sym is) (λ dirty. absurd (let z : ⊥ = cc in z))
use-fills c core NoAccess u (inr is) keeps = subst (FillsIf c core NoAccess) (sym is) (λ dirty. absurd (let z : ⊥ = cc in z))
use-fills c core what u is keeps = subst (FillsIf c core what) (sym is) (whole-fills-by c core _ (is_write_access what) what keeps refl)

-- ---- meanwhile others hit

still-complete : (c : Caches) (core : ℕ) (u : Used) (k loc : ℕ)
    → IsStill c core u
    → MayComplete c.awaited k (loc / c.shape.words) c.contents
    → MayComplete u.caches.awaited k (loc / u.caches.shape.words) u.caches.contents
still-complete c core u k loc s may =
    subst (λ (g : Geometry). MayComplete u.caches.awaited k (loc / g.words) u.caches.contents) (sym s.shape)
    (subst (λ w. MayComplete w k (loc / c.shape.words) u.caches.contents) (sym s.awaited) (kept c.awaited may))
  where
    kept : (w : Option Awaited) → MayComplete w k (loc / c.shape.words) c.contents → MayComplete w k (loc / c.shape.words) u.caches.contents
    kept None may = s.present k (loc / c.shape.words) may
    kept (Some x) may = record {
      valid = may.valid;
      absent = λ n. s.absent k (loc / c.shape.words) (may.absent n);
      present = λ e. s.present k (loc / c.shape.words) (may.present e);
    }

still-may : (c : Caches) (core : ℕ) (u : Used) (k : ℕ) (what : MemoryAccess) → IsStill c core u → MayMake c k what → MayMake u.caches k what
still-may c core u k NoAccess s may = tt
still-may c core u k _ s may = still-complete c core u k _ s may

-- ---- a choice on either bus

module _ (on : Bus) (c : Caches) (a : Choice) (before after : Choice → MemoryAccess) (holder next : Holder) (u : Used) where
  module _ (keeps : KeepsNoCopyInI (table_of_rows c.rows)) (may : HolderMayMake before holder c) where
    -- what the holder awaits
    own-may : holder ≡ HeldBy a → MayMake c (chosen a) (before a)
    own-may held = subst (λ x. HolderMayMake before x c) held may

    pub neat-after : (lines : ℕ)
        → UsesOn on c a before after holder next u
        → IsWithin lines c.shape.words (before a)
        → AllNeat lines c.contents
        → NeatAfter lines u
    neat-after lines (made it why stays) within h = use-neat lines c (chosen a) (before a) u it within keeps h
    neat-after lines (unused is stays) within h = subst (NeatAfter lines) (sym is) h
    neat-after lines (begun split is some free held same) within h = subst (NeatAfter lines) (sym is) (asks-neat lines c (chosen a) (before a) h)
    neat-after lines (ended split is some held rest) within h =
        subst (NeatAfter lines) (sym is) (completes-neat lines c (chosen a) (before a) within (own-may held) h)

    -- what holds the bus after it
    pub may-after : (lines : ℕ) → UsesOn on c a before after holder next u → AllNeat lines c.contents → HolderMayMake after next u.caches
    may-after lines uses h = by_next next refl
      where
        kept : (other : Choice) → Stays before after holder next → next ≡ HeldBy other → IsStill c (chosen a) u → MayMake u.caches (chosen other) (after other)
        kept other stays q still =
            let held = stays.held other q in
            subst (MayMake u.caches (chosen other)) (sym held.1)
            (still-may c (chosen a) u (chosen other) (before other) still (subst (λ x. HolderMayMake before x c) held.0 may))

        by_use : (other : Choice) → next ≡ HeldBy other → UsesOn on c a before after holder next u → MayMake u.caches (chosen other) (after other)
        by_use other q (made it (inl free) stays) = let f = free.2 in absurd (let z : ⊥ = cc in z)
        by_use other q (made it (inr free) stays) = kept other stays q (use-still c (chosen a) (before a) u it free)
        by_use other q (unused is stays) = kept other stays q (subst (IsStill c (chosen a)) (sym is) (none-still c (chosen a) Unused refl refl))
        by_use other q (begun split is some free held same) =
            let this : a ≡ other = cc in
            subst (λ k. MayMake u.caches (chosen k) (after k)) this
            (subst (MayMake u.caches (chosen a)) (sym same)
            (subst (λ (x : Used). MayMake x.caches (chosen a) (before a)) (sym is) (asks-may lines c (chosen a) (before a) keeps h)))
        by_use other q (ended split is some held rest) = let z : true ≡ false = subst (λ x. is_awaited x ≡ false) q rest in absurd (let y : ⊥ = cc in y)

        by_next : (n : Holder) → next ≡ n → HolderMayMake after n u.caches
        by_next (HeldBy other) q = by_use other q uses
        by_next _ q = tt

    -- a choice that writes a line back
    pub fills-by : UsesOn on c a before after holder next u → FillsIf c (chosen a) (before a) u
    fills-by (made it why stays) = use-fills c (chosen a) (before a) u it keeps
    fills-by (unused is stays) = subst (FillsIf c (chosen a) (before a)) (sym is) (λ dirty. absurd (let z : ⊥ = cc in z))
    fills-by (begun split is some free held same) = λ dirty.
        (let z : false ≡ true =
        sym (asking-clean c (chosen a) (before a)).0 ∙ subst (λ (x : Used). wrote_in x.how ≡ true) is dirty in
        absurd (let y : ⊥ = cc in y))
    fills-by (ended split is some held rest) = subst (FillsIf c (chosen a) (before a)) (sym is) (completes-fills c (chosen a) (before a) (own-may held))
