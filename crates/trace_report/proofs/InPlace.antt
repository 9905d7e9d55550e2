-- An access that needs no bus: no other cache sees it, nothing is sent to memory, and no line leaves.
use Rattle.trace_report.proofs.Vocabulary.{◌≡◌, ◌≢◌, ◌∙◌, ◌/◌, ◌%◌, ℕ, Bool, true, false, not, [], ◌∷◌, List, length, slice_index_or}
use Rattle.trace_report.proofs.Vocabulary.{get_or_past, Option, Some, None, is_some, inl, inr, refl, sym, ap, subst, eqb_tells}
use Rattle.trace_report.proofs.Vocabulary.{MemoryAccess, NoAccess, Locks, needs_bus, Table, table_of_rows, TagSet, tag_of, used, TagSets}
use Rattle.trace_report.proofs.Vocabulary.{tags_at, tag_in, at_line, sets_of, used_by, tag_at, Caches, Used, not_through, hits_by, Unused}
use Rattle.trace_report.proofs.Vocabulary.{IsUseFor, no_set, absent-remove, would_hit, through, whole_by, Forwarded, Through, next_in_place}
use Rattle.trace_report.proofs.Vocabulary.{whole_in, CacheUse, Core, at_access}
use Rattle.multiprocessor.specs.Caches.{asking_by}
use Rattle.snoop_bus.specs.inner.CacheContents.{was_written_back}
use Rattle.trace_report.specs.Steps.{left_in}
use Rattle.protocol_tables.specs.declared.state.State.{State}
use Rattle.std.specs.Map.{lookup, remove_entry}
use Rattle.std.specs.Prelude.{nat_eq}
use Rattle.machine_core.proofs.Changed.{set-at, core-at}
use Rattle.machine_core.proofs.Snooped.{own-alone}

-- whether an access is a write access
abbrev pub is_write_access : MemoryAccess → Bool
is_write_access what = at_access false (λ loc write. write) what

-- whether a dirty line is written back as the caches are used, and whose copy is sent to memory
abbrev pub wrote_in : CacheUse → Bool
wrote_in (Through r) = r.access.wrote_back
wrote_in _ = false

abbrev pub flush_in : CacheUse → Option Core
flush_in (Through r) = r.access.flushed
flush_in _ = None

-- an access tells a line that was written back exactly where it says that one was
abbrev pub IsConsistent : CacheUse → Type 0
IsConsistent how = was_written_back (left_in how) ≡ wrote_in how

-- an ask writes nothing back, and sends nothing yet
pub asking-clean : (c : Caches) (core : ℕ) (what : MemoryAccess)
    → (wrote_in (asking_by c core what).how ≡ false) × (flush_in (asking_by c core what).how ≡ None)
asking-clean c core NoAccess = (refl, refl)
asking-clean c core _ = (refl, refl)

-- where a line is used that is there, a line that isn't there stays away
tags-absent : (other line : ℕ) (state found : State) (s : TagSet) → tag_of s line ≡ Some found → tag_of s other ≡ None → tag_of (used line state s) other ≡ None
tags-absent other line state found s there none = elim (eqb_tells other line) [
  | inl p ↦ let z : Some found ≡ None = sym there ∙ subst (λ k. tag_of s k ≡ None) p.1 none in absurd (let y : ⊥ = cc in y)
  | inr p ↦ rw p.0 (absent-remove line other s.tags none)
]

sets-absent : (other line : ℕ) (state found : State) (sets : TagSets)
    → tag_in sets line ≡ Some found
    → tag_in sets other ≡ None
    → tag_in (at_line line (used line state) sets) other ≡ None
sets-absent other line state found sets there none =
    set-at (λ s. tag_of s other ≡ None) line other (used line state) sets
    (λ q l.
    tags-absent other line state found (tags_at sets line) there (subst (λ k. tag_of (slice_index_or sets k no_set) other ≡ None) q none))
    (λ q past. refl) (λ n. none)

used-absent : (k other core line : ℕ) (state found : State) (caches : List TagSets)
    → tag_at core line caches ≡ Some found
    → tag_at k other caches ≡ None
    → tag_at k other (used_by core line state caches) ≡ None
used-absent k other core line state found caches there none =
    core-at (λ sets. tag_in sets other ≡ None) core k (at_line line (used line state)) caches
    (λ q l. sets-absent other line state found (sets_of caches core) there (subst (λ j. tag_at j other caches ≡ None) q none)) (λ q past. refl) (λ n. none)

-- and one that is there stays
others-remove : (line k : ℕ) (es : List (ℕ × State)) → nat_eq k line ≡ false → lookup (nat_eq k) (remove_entry (nat_eq line) es) ≡ lookup (nat_eq k) es
others-remove line k [] d = refl
others-remove line k (e ∷ es) d = elim (eqb_tells line e.0) [
  | inl p ↦ let other : nat_eq k e.0 ≡ false = subst (λ n. nat_eq k n ≡ false) p.1 d in rw (p.0, other) refl
  | inr p ↦ elim (eqb_tells k e.0) [ inl q ↦ rw (p.0, q.0) refl | inr q ↦ rw (p.0, q.0) (others-remove line k es d) ]
]

tags-present : (other line : ℕ) (state : State) (s : TagSet) → is_some (tag_of s other) ≡ true → is_some (tag_of (used line state s) other) ≡ true
tags-present other line state s there = elim (eqb_tells other line) [
  | inl p ↦ rw p.0 refl
  | inr p ↦ rw p.0 (ap is_some (others-remove line other s.tags p.0) ∙ there)
]

sets-present : (other line : ℕ) (state : State) (sets : TagSets)
    → is_some (tag_in sets other) ≡ true
    → is_some (tag_in (at_line line (used line state) sets) other) ≡ true
sets-present other line state sets there =
    set-at (λ s. is_some (tag_of s other) ≡ true) line other (used line state) sets (λ q l. tags-present other line state (tags_at sets line) (here q))
    (λ q past. (let none : false ≡ true =
    subst (λ s. is_some (tag_of s other) ≡ true) (get_or_past sets (line % length sets) no_set past) (here q) in
    absurd (let z : ⊥ = cc in z)))
    (λ n. there)
  where
    here : other % length sets ≡ line % length sets → is_some (tag_of (tags_at sets line) other) ≡ true
    here q = subst (λ k. is_some (tag_of (slice_index_or sets k no_set) other) ≡ true) q there

used-present : (k other core line : ℕ) (state : State) (caches : List TagSets)
    → is_some (tag_at k other caches) ≡ true
    → is_some (tag_at k other (used_by core line state caches)) ≡ true
used-present k other core line state caches there =
    core-at (λ sets. is_some (tag_in sets other) ≡ true) core k (at_line line (used line state)) caches
    (λ q l. sets-present other line state (sets_of caches core) (here q))
    (λ q past. (let none : false ≡ true =
    subst (λ (sets : TagSets). is_some (tag_in sets other) ≡ true) (get_or_past caches core [] past) (here q) in
    absurd (let z : ⊥ = cc in z)))
    (λ n. there)
  where
    here : k ≡ core → is_some (tag_at core other caches) ≡ true
    here q = subst (λ j. is_some (tag_at j other caches) ≡ true) q there

-- the shape of the caches, what is awaited, and the lines of other cores are as before; what wasn't there isn't there, and what was
-- there is; and nothing is written back or sent
pub record IsStill (c : Caches) (core : ℕ) (u : Used) : Type 0 where
  pub shape : u.caches.shape ≡ c.shape
  pub awaited : u.caches.awaited ≡ c.awaited
  pub beside : (k : ℕ) → k ≢ core → sets_of u.caches.contents k ≡ sets_of c.contents k
  pub absent : (k line : ℕ) → tag_at k line c.contents ≡ None → tag_at k line u.caches.contents ≡ None
  pub present : (k line : ℕ) → is_some (tag_at k line c.contents) ≡ true → is_some (tag_at k line u.caches.contents) ≡ true
  pub clean : wrote_in u.how ≡ false
  pub unsent : flush_in u.how ≡ None

pub none-still : (c : Caches) (core : ℕ) (how : CacheUse) → wrote_in how ≡ false → flush_in how ≡ None → IsStill c core (not_through how c)
none-still c core how clean unsent = record {
  shape = refl;
  awaited = refl;
  beside = λ k n. refl;
  absent = λ k line none. none;
  present = λ k line there. there;
  clean = clean;
  unsent = unsent;
}

there : (t : Table) (write : Bool) (copy : Option State) (next : State) → next_in_place t write copy ≡ Some next → (s : State) × (copy ≡ Some s)
there t write None next q = absurd (let z : ⊥ = cc in z)
there t write (Some s) next q = (s, refl)

hit-still : (c : Caches) (core loc : ℕ) (write : Bool) → not (would_hit c core loc write) ≡ false → IsStill c core (whole_by c core loc write)
hit-still c core loc write hit = by_next (next_in_place t write (tag_at core line c.contents)) refl hit
  where
    t : Table
    t = table_of_rows c.rows

    line : ℕ
    line = loc / c.shape.words

    by_next : (o : Option State)
        → next_in_place t write (tag_at core line c.contents) ≡ o
        → not (is_some o) ≡ false
        → IsStill c core (whole_by c core loc write)
    by_next None q hit = absurd (let z : ⊥ = cc in z)
    by_next (Some next) q hit =
        let found = there t write (tag_at core line c.contents) next q in
        subst (λ o. IsStill c core (through c c.awaited (whole_in t write core line c.contents (tag_at core line c.contents) o))) (sym q) (record {
          shape = refl;
          awaited = refl;
          beside = λ k n. own-alone core (at_line line (used line next)) c.contents k n;
          absent = λ k other none. used-absent k other core line next found.0 c.contents found.1 none;
          present = λ k other there. used-present k other core line next c.contents there;
          clean = refl;
          unsent = refl;
        })

pub use-still : (c : Caches) (core : ℕ) (what : MemoryAccess) (u : Used)
    → IsUseFor c core what u
    → needs_bus what (hits_by c core what) ≡ false
    → IsStill c core u
use-still c core NoAccess u (inl is) free = subst (IsStill c core) (sym is) (none-still c core Unused refl refl)
use-still c core NoAccess u (inr is) free = subst (IsStill c core) (sym is) (none-still c core Forwarded refl refl)
use-still c core (Locks loc) u is free = absurd (let z : ⊥ = cc in z)
use-still c core what u is free = subst (IsStill c core) (sym is) (hit-still c core _ (is_write_access what) free)

-- whatever access it is, the protocol's table and what is awaited stay
pub use-keeps : (c : Caches) (core : ℕ) (what : MemoryAccess) (u : Used) → IsUseFor c core what u → (u.caches.rows ≡ c.rows) × (u.caches.awaited ≡ c.awaited)
use-keeps c core NoAccess u (inl is) = rw is (refl, refl)
use-keeps c core NoAccess u (inr is) = rw is (refl, refl)
use-keeps c core _ u is = rw is (refl, refl)
