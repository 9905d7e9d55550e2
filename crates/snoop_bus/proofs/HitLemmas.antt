-- What a hit answers and leaves.
use Rattle.snoop_bus.proofs.Vocabulary.{cases_eq, ◌≡◌, ◌≢◌, ◌⊎◌, inl, inr, ℕ, ◌<◌, true, false, nat_eq, Option, Some, None, IfSome}
use Rattle.snoop_bus.proofs.Vocabulary.{option_map, List, length, map, refl, sym, ap, ◌∙◌, slice_set, slice_index, if◌then◌else◌}
use Rattle.snoop_bus.proofs.Vocabulary.{WritesInPlace, in_place, Table, State, M, Line, to_front, with_state, Hit, AccessReport}
use Rattle.snoop_bus.proofs.Vocabulary.{moving_nothing, Accessed, used_by, Words, state_of_copy, Sets, in_set, copy_in, copy_at, cache_of}
use Rattle.snoop_bus.proofs.Vocabulary.{tags_of, ways_of, current_words, AllCoherent, ChangesCopy, Loads, Acquires, HeldBus}
use Rattle.snoop_bus.proofs.Vocabulary.{counted_copies_of, IsHeld, Bool, next_in_place, whole_access, whole_in, whole_memory_in}
use Rattle.snoop_bus.proofs.Vocabulary.{IsMadeWhole, KeepsBeside}
use Rattle.snoop_bus.proofs.BesideLemmas.{own_word, held-same, held-placed, counted-same, counted-changes, placed-counts, ways-counted}
use Rattle.cache_set.proofs.Numbers.{differ, itself}
use Rattle.snoop_bus.proofs.CurrentWords.{same_copies, same-coherent, same-seen}
use Rattle.snoop_bus.proofs.UseLemmas.{tags-touched, ways-set_cache}
use Rattle.snoop_bus.proofs.AccessLemmas.{whole-here, memory-here}
use Rattle.snoop_bus.proofs.OwnLemmas.{Owned, owned-coherent, owned-seen}
use Rattle.snoop_bus.proofs.WriteLemmas.{here_now, written_m, hit_owned}

abbrev hit : AccessReport
hit = moving_nothing Hit

-- an access in place goes by the table
made_in_place : (t : Table) (write : Bool) (core line : ℕ) (c0 c2 : List Sets) (m : List Words) (copy : Line)
    (next : State)
    → copy_at c0 core line ≡ Some copy
    → next_in_place t write (Some copy.state) ≡ Some next →
    tags_of c2 ≡ used_by core line next (tags_of c0) → IsMadeWhole t write core line c0 c2 m m hit
made_in_place t write core line c0 c2 m copy next found writes tags = record {
  report_is = sym (ap (λ (a : Accessed). a.report) kind);
  tags = tags ∙ sym (ap (λ (a : Accessed). a.caches) kind);
  memory = sym (memory-here t write c0 core line m (Some copy) found ∙ ap (λ x. whole_memory_in t write core line c0 (Some copy.state) x m) writes);
}
  where
    kind : whole_access t write core line (tags_of c0) ≡ whole_in t write core line (tags_of c0) (Some copy.state) (Some next)
    kind = whole-here t write c0 core line (Some copy) found ∙ ap (whole_in t write core line (tags_of c0) (Some copy.state)) writes

pub load_hit : (t : Table) (held : Option HeldBus) (c0 : List Sets) (m : List Words) (core line offset : ℕ)
    (copy : Line) (new : Sets)
    → AllCoherent (counted_copies_of held c0) m
    → IfSome held (IsHeld c0 m)
    → core < length c0
    → line < length m →
    copy_at c0 core line ≡ Some copy → new ≡ in_set line (to_front line) (cache_of c0 core) → ((k : ℕ) → copy_in new k ≡ copy_at c0 core k) →
    map (λ s. s.ways) new ≡ map (λ s. s.ways) (cache_of c0 core) →
    Loads t held core line offset c0 (slice_set c0 core new) m m (slice_index copy.words offset) hit × KeepsBeside held c0 (slice_set c0 core new) m m
load_hit t held c0 m core line offset copy new h awaited core_in line_in found exact copies ways = (
  record {
    word_is =
        let other = own_word held c0 m core line copy awaited found in
        ap (λ (w : Words). slice_index w offset) (other.2 ∙ (h.each line line_in).same core other.0 other.1);
    made = made_in_place t false core line c0 (slice_set c0 core new) m copy copy.state found refl (tags-touched c0 core line copy new found exact);
  },
  record {
    words = record {
      coherent = same-coherent (counted_copies_of held c0) (counted_copies_of held (slice_set c0 core new)) m counts h;
      words = same-seen (counted_copies_of held c0) (counted_copies_of held (slice_set c0 core new)) m counts h;
      ways = ways-counted held (slice_set c0 core new) ∙ room ∙ sym (ways-counted held c0);
    };
    awaited = still;
    ways = room;
  },
)
  where
    room : ways_of (slice_set c0 core new) ≡ ways_of c0
    room = ways-set_cache c0 core new ways

    still : IfSome held (IsHeld (slice_set c0 core new) m)
    still = held-same held c0 (slice_set c0 core new) m m awaited room refl (same_copies c0 core new core_in copies)

    counts : (i k : ℕ) → copy_at (counted_copies_of held (slice_set c0 core new)) i k ≡ copy_at (counted_copies_of held c0) i k
    counts = counted-same held c0 (slice_set c0 core new) m awaited still (same_copies c0 core new core_in copies)

-- where a core has the line in M with the word that it had, all words are seen as they were
pub same_words : (c0 c2 : List Sets) (m : List Words) (core line : ℕ)
    → Owned c0 c2 m core line (current_words c0 m line)
    → (k : ℕ) → k < length m
    → current_words c2 m k ≡ current_words c0 m k
same_words c0 c2 m core line h k b = owned-seen c0 c2 m core line (current_words c0 m line) h k b ∙ by_line (cases_eq k line)
  where
    by_line : (k ≡ line) ⊎ (k ≢ line) → (if nat_eq k line then current_words c0 m line else current_words c0 m k) ≡ current_words c0 m k
    by_line (inl p) = let e : nat_eq k line ≡ true = rw p (itself line) in rw e (rw p refl)
    by_line (inr p) = let e : nat_eq k line ≡ false = differ k line p in rw e refl

pub write_hit : (t : Table)
    → WritesInPlace t.written
    → (held : Option HeldBus) (c0 c2 : List Sets) (m : List Words) (core line : ℕ) (copy : Line) (next : State)
    → AllCoherent (counted_copies_of held c0) m
    → IfSome held (IsHeld c0 m)
    → line < length m →
    copy_at c0 core line ≡ Some copy → t.written copy.state ≡ Some next → ChangesCopy core line (option_map (with_state next) (copy_at c0 core line)) c0 c2 →
    tags_of c2 ≡ used_by core line next (tags_of c0) → ways_of c2 ≡ ways_of c0 →
    Acquires t held core line c0 c2 m m copy.words hit × KeepsBeside held c0 c2 m m
write_hit t law held c0 c2 m core line copy next h awaited line_in found writes to tags ways = (
  record {
    words_are = (h.each line line_in).same core copy counts;
    own = here_now core line (option_map (with_state next) (copy_at c0 core line)) c0 c2 to ∙ rw (found, to_m) refl;
    made = made_in_place t true core line c0 c2 m copy next found writes tags;
  },
  record {
    words = record {
      coherent = owned-coherent (counted_copies_of held c0) (counted_copies_of held c2) m core line (current_words (counted_copies_of held c0) m line) own;
      words = same_words (counted_copies_of held c0) (counted_copies_of held c2) m core line own;
      ways = ways-counted held c2 ∙ ways ∙ sym (ways-counted held c0);
    };
    awaited = still;
    ways = ways;
  },
)
  where
    in_state : in_place copy.state ≡ Some next
    in_state = sym (law copy.state) ∙ writes

    to_m : next ≡ M
    to_m = written_m copy.state next in_state

    placed : in_place (state_of_copy (copy_at c0 core line)) ≡ Some M
    placed = rw found (rw to_m at in_state)

    still : IfSome held (IsHeld c2 m)
    still = held-placed held c0 c2 m core line (option_map (with_state next) (copy_at c0 core line)) awaited ways placed (rw found to_m) to

    counts : copy_at (counted_copies_of held c0) core line ≡ Some copy
    counts = placed-counts held c0 m core line awaited placed ∙ found

    changes : ChangesCopy core line
        (option_map (with_state next) (copy_at (counted_copies_of held c0) core line)) (counted_copies_of held c0)
        (counted_copies_of held c2)
    changes =
        rw (placed-counts held c0 m core line awaited placed)
        (counted-changes held c0 c2 m core line (option_map (with_state next) (copy_at c0 core line)) awaited still placed to)

    own : Owned (counted_copies_of held c0) (counted_copies_of held c2) m core line (current_words (counted_copies_of held c0) m line)
    own = hit_owned (counted_copies_of held c0) (counted_copies_of held c2) m core line copy next h line_in counts in_state changes
