-- A whole access is an ask and its completion, one after the other.
use Rattle.snoop_bus.proofs.Vocabulary.{◌≡◌, ◌≢◌, ℕ, Bool, false, Option, Some, None, List, refl, sym, ap, WritesInPlace, Table, State, I}
use Rattle.snoop_bus.proofs.Vocabulary.{GetS, GetM, TagSets, tag_at, asking, awaiting, hits, true, is_some, Words, Sets, cache_of, tags_of}
use Rattle.snoop_bus.proofs.Vocabulary.{set_at, asked_memory, request_for, completed_memory, in_halves, next_in_place, whole_access}
use Rattle.snoop_bus.proofs.Vocabulary.{whole_memory, victim_of, victim_at, written_back}

pub load_halves : (t : Table) (core line : ℕ) (caches : List TagSets)
    → hits t core line false caches ≡ false
    → whole_access t false core line caches ≡ in_halves t GetS core line caches
load_halves t core line caches misses = by_tag (tag_at core line caches) refl
  where
    by_tag : (o : Option State) → tag_at core line caches ≡ o → whole_access t false core line caches ≡ in_halves t GetS core line caches
    by_tag None e = rw e refl
    by_tag (Some state) e = let hit : is_some (next_in_place t false (Some state)) ≡ false = rw e at misses in cc

pub write_halves : (t : Table)
    → WritesInPlace t.written
    → (core line : ℕ) (caches : List TagSets)
    → tag_at core line caches ≢ Some I
    → whole_access t true core line caches ≡ in_halves t GetM core line caches
write_halves t law core line caches valid = by_tag (tag_at core line caches) refl
  where
    by_tag : (o : Option State) → tag_at core line caches ≡ o → whole_access t true core line caches ≡ in_halves t GetM core line caches
    by_tag None e = rw e refl
    by_tag (Some I) e = absurd (valid e)
    by_tag (Some state) e = rw (e, law state) refl

-- and so is memory after it: an ask leaves the core's own copies as they are
module _ (t : Table) (core line : ℕ) (caches asked : List Sets) (memory : List Words) (own : cache_of asked core ≡ cache_of caches core) where
  same_victim : (m : List Words) → written_back t (victim_at caches core line) m ≡ written_back t (victim_at asked core line) m
  same_victim m = ap (λ sets. written_back t (victim_of (set_at sets line)) m) (sym own)

  abbrev IsInHalves : Bool → Type 0
  IsInHalves write =
      whole_memory t write core line caches memory
      ≡ completed_memory t core line
      (asking t (request_for write) core line (tags_of caches)).awaited asked
      (asked_memory t (request_for write) line caches memory)

  pub load-memory : hits t core line false (tags_of caches) ≡ false → IsInHalves false
  unfolding awaiting
  load-memory misses = by_tag (tag_at core line (tags_of caches)) refl
    where
      by_tag : (o : Option State) → tag_at core line (tags_of caches) ≡ o → IsInHalves false
      by_tag None e = rw e (same_victim _)
      by_tag (Some state) e = let hit : is_some (next_in_place t false (Some state)) ≡ false = rw e at misses in cc

  pub write-memory : WritesInPlace t.written → tag_at core line (tags_of caches) ≢ Some I → IsInHalves true
  unfolding awaiting
  write-memory law valid = by_tag (tag_at core line (tags_of caches)) refl
    where
      by_tag : (o : Option State) → tag_at core line (tags_of caches) ≡ o → IsInHalves true
      by_tag None e = rw e (same_victim _)
      by_tag (Some I) e = absurd (valid e)
      by_tag (Some state) e = rw (e, law state) refl
