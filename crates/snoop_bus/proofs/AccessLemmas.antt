-- Which access it is, by the core's own copy.
use Rattle.snoop_bus.proofs.Vocabulary.{◌≡◌, ℕ, Bool, sym, Option, None, Some, option_map, Departure, departing, was_written_back}
use Rattle.snoop_bus.proofs.Vocabulary.{evicted_by, List, refl, ap, ◌∙◌, Table, Line, Victim, tag_of, leaving, TagSets, tags_at, sets_of}
use Rattle.snoop_bus.proofs.Vocabulary.{writes_back, dirty_in, Sets, set_at, copy_at, cache_of, tags_of, victim_at, Words, next_in_place}
use Rattle.snoop_bus.proofs.Vocabulary.{whole_access, whole_in, whole_memory, whole_memory_in, State}
use Rattle.cache_set.proofs.TagLemmas.{victim_tag, leaving-tags}
use Rattle.cache_set.proofs.CacheTags.{sets_of-tags, tag_at-tags, tags_at-tags}

pub tag_here : (caches : List Sets) (core line : ℕ)
    → tag_of (tags_at (sets_of (tags_of caches) core) line) line
    ≡ option_map (λ copy. copy.state) (copy_at caches core line)
tag_here caches core line = ap (λ (sets : TagSets). tag_of (tags_at sets line) line) (sets_of-tags caches core) ∙ tag_at-tags (cache_of caches core) line

-- a whole access, and memory after it, by that copy
pub whole-here : (t : Table) (write : Bool) (caches : List Sets) (core line : ℕ) (o : Option Line) → copy_at caches core line ≡ o →
    whole_access t write core line (tags_of caches)
    ≡ whole_in t write core line (tags_of caches) (option_map (λ copy. copy.state) o) (next_in_place t write (option_map (λ copy. copy.state) o))
whole-here t write caches core line o found =
    ap (λ (x : Option State). whole_in t write core line (tags_of caches) x (next_in_place t write x))
    (tag_here caches core line ∙ ap (option_map (λ copy. copy.state)) found)

pub memory-here : (t : Table) (write : Bool) (caches : List Sets) (core line : ℕ) (memory : List Words) (o : Option Line) → copy_at caches core line ≡ o →
    whole_memory t write core line caches memory
    ≡ whole_memory_in t write core line caches (option_map (λ copy. copy.state) o)
    (next_in_place t write (option_map (λ copy. copy.state) o)) memory
memory-here t write caches core line memory o found =
    ap (λ (x : Option State). whole_memory_in t write core line caches x (next_in_place t write x) memory)
    (tag_here caches core line ∙ ap (option_map (λ copy. copy.state)) found)

-- what leaves, as the lines and states alone say
leaving-here : (caches : List Sets) (core line : ℕ) → leaving (tags_at (sets_of (tags_of caches) core) line) ≡ victim_tag (victim_at caches core line)
leaving-here caches core line =
    ap (λ (sets : TagSets). leaving (tags_at sets line)) (sets_of-tags caches core)
    ∙ rw (tags_at-tags (cache_of caches core) line, leaving-tags (set_at (cache_of caches core) line)) refl

pub left_is : (t : Table) (caches : List Sets) (core line : ℕ) (v : Option Victim) (left : Option Departure)
    → left ≡ option_map (departing t) (victim_tag v)
    → v ≡ victim_at caches core line
    → left ≡ evicted_by t core line (tags_of caches)
left_is t caches core line v left departs is =
    departs ∙ ap (λ (o : Option Victim). option_map (departing t) (victim_tag o)) is ∙ sym (ap (option_map (departing t)) (leaving-here caches core line))

-- it was written back where the table says so
pub written_is : (t : Table) (core line : ℕ) (caches : List TagSets) → was_written_back (evicted_by t core line caches) ≡ writes_back t core line caches
written_is t core line caches = by_tag (leaving (tags_at (sets_of caches core) line))
  where
    by_tag : (o : Option (ℕ × State)) → was_written_back (option_map (departing t) o) ≡ dirty_in t o
    by_tag None = refl
    by_tag (Some tag) = refl
