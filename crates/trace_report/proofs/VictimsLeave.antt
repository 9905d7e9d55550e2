-- What an access makes of the lines of its core's cache: they stay neat, and where it sends a dirty one away its own line comes in.
use Rattle.trace_report.proofs.Vocabulary.{◌≡◌, ◌≢◌, ◌∙◌, ◌<◌, ℕ, Bool, true, false, List, Option, Some, None, is_some, refl, sym, ap}
use Rattle.trace_report.proofs.Vocabulary.{Table, I, M, leaving, TagSets, tags_at, tag_in, sets_of, dirty_in, writes_back, tag_at}
use Rattle.trace_report.proofs.Vocabulary.{KeepsNoCopyInI, AllNeat, found-valid, all-requested, all-used, all-filled, own-kept, Request}
use Rattle.trace_report.proofs.Vocabulary.{Transient, SmD, snoop_column, Awaited, awaiting, completed, completed_in, next_in_place}
use Rattle.trace_report.proofs.Vocabulary.{awaited_as, request_for, whole_in, whole_access, requested}
use Rattle.std.specs.Option.{option_map}
use Rattle.snoop_bus.specs.CacheContents.{departing, evicted_by}
use Rattle.snoop_bus.specs.inner.CacheContents.{was_written_back}
use Rattle.protocol_tables.specs.declared.state.State.{State}

-- ---- a completion

-- what is awaited fills a line in a state other than I; the core has a copy of that line in an upgrade, and else none
pub record MayFill (x : Awaited) (core line : ℕ) (caches : List TagSets) : Type 0 where
  pub valid : x.state ≢ I
  pub absent : x.transient ≢ SmD → tag_at core line caches ≡ None
  pub present : x.transient ≡ SmD → is_some (tag_at core line caches) ≡ true

-- where nothing is awaited the core has the line
abbrev pub MayComplete : Option Awaited → ℕ → ℕ → List TagSets → Type 0
MayComplete None core line caches = is_some (tag_at core line caches) ≡ true
MayComplete (Some x) core line caches = MayFill x core line caches

-- M isn't I
pub modified : M ≢ I
modified = λ q. let z : ⊥ = cc in z

pub completed-neat : (lines : ℕ) (t : Table) (core line : ℕ) (w : Option Awaited) (caches : List TagSets)
    → line < lines
    → MayComplete w core line caches
    → AllNeat lines caches
    → AllNeat lines (completed t core line w caches).caches
completed-neat lines t core line None caches l may h = all-used lines core line M caches l modified h
completed-neat lines t core line (Some x) caches l may h = by_transient x.transient may.absent
  where
    by_transient : (transient : Transient)
        → (transient ≢ SmD → tag_at core line caches ≡ None)
        → AllNeat lines (completed_in t core line transient x.state x.flushed caches).caches
    by_transient SmD absent = all-used lines core line x.state caches l may.valid h
    by_transient _ absent = all-filled lines core line x.state caches l may.valid (absent (λ q. let z : ⊥ = cc in z)) h

-- a line comes in that the core hadn't, and a dirty one gives way to it
pub record ComesIn (t : Table) (core line : ℕ) (caches : List TagSets) : Type 0 where
  pub absent : tag_at core line caches ≡ None
  pub writes : writes_back t core line caches ≡ true

pub completed-fills : (t : Table) (core line : ℕ) (w : Option Awaited) (caches : List TagSets)
    → MayComplete w core line caches
    → (completed t core line w caches).report.access.wrote_back ≡ true
    → ComesIn t core line caches
completed-fills t core line None caches may dirty = absurd (let z : ⊥ = cc in z)
completed-fills t core line (Some x) caches may dirty = by_transient x.transient may.absent dirty
  where
    by_transient : (y : Transient)
        → (y ≢ SmD → tag_at core line caches ≡ None)
        → (completed_in t core line y x.state x.flushed caches).report.access.wrote_back ≡ true
        → ComesIn t core line caches
    by_transient SmD absent dirty = absurd (let z : ⊥ = cc in z)
    by_transient _ absent dirty = record { absent = absent (λ q. let z : ⊥ = cc in z); writes = dirty }

-- the line that it tells then
pub completed-left : (t : Table) (core line : ℕ) (w : Option Awaited) (caches : List TagSets) → (completed t core line w caches).report.access.wrote_back ≡ true
    → (completed t core line w caches).report.left ≡ evicted_by t core line caches
completed-left t core line None caches dirty = absurd (let z : ⊥ = cc in z)
completed-left t core line (Some x) caches dirty = by_transient x.transient dirty
  where
    by_transient : (y : Transient)
        → (completed_in t core line y x.state x.flushed caches).report.access.wrote_back ≡ true
        → (completed_in t core line y x.state x.flushed caches).report.left ≡ evicted_by t core line caches
    by_transient SmD dirty = absurd (let z : ⊥ = cc in z)
    by_transient _ dirty = refl

-- it tells one that was written back exactly where it says that one was
pub completed-consistent : (t : Table) (core line : ℕ) (w : Option Awaited) (caches : List TagSets)
    → was_written_back (completed t core line w caches).report.left ≡ (completed t core line w caches).report.access.wrote_back
completed-consistent t core line None caches = refl
completed-consistent t core line (Some x) caches = by_transient x.transient
  where
    by_tag : (o : Option (ℕ × State)) → was_written_back (option_map (departing t) o) ≡ dirty_in t o
    by_tag None = refl
    by_tag (Some tag) = refl

    by_transient : (y : Transient)
        → was_written_back (completed_in t core line y x.state x.flushed caches).report.left
        ≡ (completed_in t core line y x.state x.flushed caches).report.access.wrote_back
    by_transient SmD = refl
    by_transient _ = by_tag (leaving (tags_at (sets_of caches core) line))

pub whole-consistent : (t : Table) (write : Bool) (core line : ℕ) (caches : List TagSets)
    → was_written_back (whole_access t write core line caches).report.left ≡ (whole_access t write core line caches).report.access.wrote_back
whole-consistent t write core line caches = by_next (next_in_place t write (tag_at core line caches))
  where
    by_next : (next : Option State)
        → was_written_back (whole_in t write core line caches (tag_at core line caches) next).report.left
        ≡ (whole_in t write core line caches (tag_at core line caches) next).report.access.wrote_back
    by_next (Some next) = refl
    by_next None =
        completed-consistent t core line
        (Some (awaiting t (request_for write) line caches (awaited_as write (tag_at core line caches))))
        (requested (snoop_column t (request_for write)) core line caches)

-- ---- an access that is made whole

module _ (t : Table) (write : Bool) (core line : ℕ) (caches : List TagSets) (keeps : KeepsNoCopyInI t) where
  abbrev request : Request
  request = request_for write

  -- all caches once it has asked, and what it awaits then
  abbrev seen : List TagSets
  seen = requested (snoop_column t request) core line caches

  abbrev awaits : Option State → Option Awaited
  awaits copy = Some (awaiting t request line caches (awaited_as write copy))

  kept : tag_at core line seen ≡ tag_at core line caches
  kept = ap (λ (sets : TagSets). tag_in sets line) (own-kept core _ caches)

  asked-may : (copy : Option State) → tag_at core line caches ≡ copy → next_in_place t write copy ≡ None → MayComplete (awaits copy) core line seen
  unfolding awaiting
  asked-may copy at none = by_write write copy at none
    where
      by_write : (b : Bool) (o : Option State) → tag_at core line caches ≡ o → next_in_place t b o ≡ None
          → MayComplete (Some (awaiting t (request_for b) line caches (awaited_as b o))) core line seen
      by_write false None at none = record { valid = keeps.filled _; absent = λ n. kept ∙ at; present = λ q. absurd (let z : ⊥ = cc in z) }
      by_write true None at none = record { valid = modified; absent = λ n. kept ∙ at; present = λ q. absurd (let z : ⊥ = cc in z) }
      by_write false (Some s) at none = absurd (let z : ⊥ = cc in z)
      by_write true (Some s) at none = record { valid = modified; absent = λ n. absurd (n refl); present = λ q. ap is_some (kept ∙ at) }

  pub whole-fills : (whole_access t write core line caches).report.access.wrote_back ≡ true → ComesIn t core line caches
  whole-fills = by_next (tag_at core line caches) (next_in_place t write (tag_at core line caches)) refl refl
    where
      by_next : (copy next : Option State)
          → tag_at core line caches ≡ copy
          → next_in_place t write copy ≡ next
          → (whole_in t write core line caches copy next).report.access.wrote_back ≡ true
          → ComesIn t core line caches
      by_next copy (Some next) at is dirty = absurd (let z : ⊥ = cc in z)
      by_next copy None at is dirty =
          let f = completed-fills t core line (awaits copy) seen (asked-may copy at is) dirty in
          record {
            absent = sym kept ∙ f.absent;
            writes = ap (λ (sets : TagSets). dirty_in t (leaving (tags_at sets line))) (sym (own-kept core _ caches)) ∙ f.writes;
          }

  pub whole-left : (whole_access t write core line caches).report.access.wrote_back ≡ true
      → (whole_access t write core line caches).report.left ≡ evicted_by t core line caches
  whole-left = by_next (tag_at core line caches) (next_in_place t write (tag_at core line caches))
    where
      by_next : (copy next : Option State)
          → (whole_in t write core line caches copy next).report.access.wrote_back ≡ true
          → (whole_in t write core line caches copy next).report.left ≡ evicted_by t core line caches
      by_next copy (Some next) dirty = absurd (let z : ⊥ = cc in z)
      by_next copy None dirty =
          completed-left t core line (awaits copy) seen dirty
          ∙ ap (λ (sets : TagSets). option_map (departing t) (leaving (tags_at sets line))) (own-kept core _ caches)

  module _ (lines : ℕ) (within : line < lines) (h : AllNeat lines caches) where
    valid-in-place : (copy : Option State) (next : State) → tag_at core line caches ≡ copy → next_in_place t write copy ≡ Some next → next ≢ I
    valid-in-place copy next at is = by_write write copy at is
      where
        by_write : (b : Bool) (o : Option State) → tag_at core line caches ≡ o → next_in_place t b o ≡ Some next → next ≢ I
        by_write b None at is = absurd (let z : ⊥ = cc in z)
        by_write false (Some s) at is = let same : s ≡ next = cc in found-valid lines line next (sets_of caches core) (h core) (at ∙ ap Some same)
        by_write true (Some s) at is = λ q. keeps.written s (is ∙ ap Some q)

    pub whole-neat : AllNeat lines (whole_access t write core line caches).caches
    whole-neat = by_next (tag_at core line caches) (next_in_place t write (tag_at core line caches)) refl refl
      where
        by_next : (copy next : Option State)
            → tag_at core line caches ≡ copy
            → next_in_place t write copy ≡ next
            → AllNeat lines (whole_in t write core line caches copy next).caches
        by_next copy (Some next) at is = all-used lines core line next caches within (valid-in-place copy next at is) h
        by_next copy None at is =
            completed-neat lines t core line (awaits copy) seen within (asked-may copy at is)
            (all-requested lines (snoop_column t request) core line caches h)
