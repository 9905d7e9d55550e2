-- A new bus, and what holds of a bus from one access to the next.
use Rattle.snoop_bus.proofs.Vocabulary.{nat_tests, arith, ◌≡◌, inl, inr, ℕ, ◌<◌, ◌≤◌, true, None, refl, Option, sym, ap, ◌∙◌, zero, suc}
use Rattle.snoop_bus.proofs.Vocabulary.{List, [], ◌∷◌, length, map, ◌%◌, slice_index_or, nat_lt, ◌+◌, replicate, ◌*◌, ◌/◌, slice_index}
use Rattle.snoop_bus.proofs.Vocabulary.{IfSome, Table, cases_lt, Words, line_in, word_in_lines, words_in_lines, offset_of, line_of_words}
use Rattle.snoop_bus.proofs.Vocabulary.{lines_of_words, Coherent, length-map, Sets, copy_in, copy_at, cache_of, current_words, AllCoherent}
use Rattle.snoop_bus.proofs.Vocabulary.{empty_caches, Contents, copy_of, contents, get_or-map, ways_of, most_cores}
use Rattle.snoop_bus.proofs.Vocabulary.{length-map-range_with_len, get_or-map-range_with_len, fill_by_all, div-add-mod', mod_below, mul-le}
use Rattle.snoop_bus.proofs.Vocabulary.{most_words, div_ceil, Geometry, HasWholeLines, IsBus, Updated, Hierarchy, HeldBus}
use Rattle.snoop_bus.proofs.Vocabulary.{counted_copies_of, IsHeld, IsPlaced, KeepsWords, SetsWord, Updates}
use Rattle.std.proofs.lemmas.List.{length-replicate}
use Rattle.cache_set.proofs.WholeCache.{replicate-at}
use Rattle.snoop_bus.proofs.CurrentWords.{seen_is, all_coherent}
use Rattle.snoop_bus.proofs.LineLemmas.{lines-same, lines-set}
use Rattle.snoop_bus.proofs.WordLemmas.{words-same, line_below}

pub map-replicate : {A B : Type 0} (f : A → B) (n : ℕ) (x : A) → map f (replicate n x) ≡ replicate n (f x)
map-replicate f zero x = refl
map-replicate f (suc n) x = ap (λ l. f x ∷ l) (map-replicate f n x)

empty_set : (sets ways line : ℕ) → copy_in (replicate sets (contents [] ways)) line ≡ None
empty_set sets ways line = elim (replicate-at sets (line % length (replicate sets (contents [] ways))) (contents [] ways) (contents [] 1)) [
  | inl p ↦ ap (λ (s : Contents). copy_of s line) p
  | inr p ↦ ap (λ (s : Contents). copy_of s line) p
]

-- no core of a new bus has a copy
empty_copy : (cores : ℕ) (shape : Geometry) (i k : ℕ) → copy_at (empty_caches cores shape) i k ≡ None
empty_copy cores shape i k = elim (replicate-at cores i (replicate shape.sets (contents [] shape.ways)) []) [
  | inl p ↦ ap (λ (sets : Sets). copy_in sets k) p ∙ empty_set shape.sets shape.ways k
  | inr p ↦ ap (λ (sets : Sets). copy_in sets k) p
]

new-line : (cores : ℕ) (shape : Geometry) (w : Words) (k : ℕ) → Coherent w w (λ i. copy_at (empty_caches cores shape) i k)
new-line cores shape w k = record {
  valid = λ i copy e. let none : copy_at (empty_caches cores shape) i k ≡ None = empty_copy cores shape i k in cc;
  same = λ i copy e. let none : copy_at (empty_caches cores shape) i k ≡ None = empty_copy cores shape i k in cc;
  apart = λ i j d. rw (empty_copy cores shape i k) refl;
  clean = λ none. refl;
}

-- the lines of these words have these words
lines-of_words : (words lines : ℕ) (init : List ℕ)
    → 0 < words
    → words ≤ most_words
    → length init ≤ lines * words
    → words_in_lines words (line_in (lines_of_words words init lines)) (length init) ≡ init
lines-of_words words lines init some few enough =
    sym (fill_by_all (word_in_lines words (line_in (lines_of_words words init lines))) init (length init) 0 refl each)
  where
    each : (i : ℕ) → i < length init → slice_index_or init i 0 ≡ word_in_lines words (line_in (lines_of_words words init lines)) i
    each i b =
        let line : line_in (lines_of_words words init lines) (i / words) ≡ line_of_words words init (i / words) =
        get_or-map-range_with_len (line_of_words words init) 0 lines (i / words) (i / words) []
        (line_below words (length init) lines i some enough b) (omega arith) in
        let low : i % words < words = mod_below i words some in
        let offset : slice_index (line_of_words words init (i / words)) (i % words) ≡ offset_of words init (i / words) (i % words) =
        get_or-map-range_with_len (offset_of words init (i / words)) 0 most_words (i % words) (i % words) 0 (omega arith) (omega arith) in
        let yes : nat_lt (i % words) words ≡ true = grind (arith, nat_tests) in
        sym (ap (λ (w : Words). slice_index w (i % words)) line ∙ offset ∙ rw (yes, div-add-mod' i words) refl)

pub new-words : (words lines cores : ℕ) (shape : Geometry) (init : List ℕ) → 0 < words → words ≤ most_words → length init ≤ lines * words →
    words_in_lines words (current_words (empty_caches cores shape) (lines_of_words words init lines)) (length init) ≡ init
new-words words lines cores shape init some few enough =
    let memory : List Words = lines_of_words words init lines in
    words-same words (length init) (length memory) (line_in memory) (current_words (empty_caches cores shape) memory) some
    (rw (length-map-range_with_len (line_of_words words init) 0 lines) enough)
    (λ k b. seen_is (empty_caches cores shape) memory k (line_in memory k) (new-line cores shape (line_in memory k) k))
    ∙ lines-of_words words lines init some few enough

pub new-cores : (cores : ℕ) (shape : Geometry) → length (empty_caches cores shape) ≡ cores
new-cores cores shape = length-replicate cores (replicate shape.sets (contents [] shape.ways))

-- no more lines than locations
lines_few : (lines words n : ℕ) → 1 ≤ words → lines * words < n + words → n ≤ 16 → lines ≤ 16
lines_few lines words n some close few = elim (cases_lt 16 lines) [
  | inl p ↦ let more : 17 * words ≤ lines * words = mul-le 17 words lines words (omega arith) (omega arith) in absurd (omega arith)
  | inr p ↦ p
]

pub new-bus : (cores lines : ℕ) (shape : Geometry) (init : List ℕ)
    → 1 ≤ cores
    → cores ≤ most_cores
    → 1 ≤ shape.words
    → shape.words ≤ most_words
    → length init ≤ 16
    → length init ≤ lines * shape.words
    → lines * shape.words < length init + shape.words →
    lines ≡ div_ceil (length init) shape.words → IsBus shape (length init) (empty_caches cores shape) (lines_of_words shape.words init lines) None
new-bus cores lines shape init some few words small locations enough close exact = record {
  coherent =
      all_coherent (empty_caches cores shape) memory (λ k. line_in memory k)
      (λ k b. new-line cores shape (line_in memory k) k) (λ k i b. empty_copy cores shape i k);
  lines = λ k b. seen_is (empty_caches cores shape) memory k (line_in memory k) (new-line cores shape (line_in memory k) k)
      ∙ get_or-map-range_with_len (line_of_words shape.words init) 0 lines k k [] (rw lines_are at b) (omega arith)
      ∙ ap (λ (ws : List ℕ). line_of_words shape.words ws k) (sym (new-words shape.words lines cores shape init words small enough));
  awaited = tt;
  placed = tt;
  shaped = rw size (map-replicate (map (λ s. s.ways)) cores (replicate shape.sets (contents [] shape.ways))
      ∙ ap (replicate cores) (map-replicate (λ (s : Contents). s.ways) shape.sets (contents [] shape.ways)));
  some_core = rw size (omega arith);
  few_cores = rw size few;
  few_locations = locations;
  some_word = words;
  few_lines = rw lines_are (lines_few lines shape.words (length init) words close locations);
  enough_lines = rw lines_are enough;
  as_many_lines = lines_are ∙ exact;
}
  where
    memory : List Words
    memory = lines_of_words shape.words init lines

    lines_are : length (lines_of_words shape.words init lines) ≡ lines
    lines_are = length-map-range_with_len (line_of_words shape.words init) 0 lines

    size : length (empty_caches cores shape) ≡ cores
    size = length-replicate cores (replicate shape.sets (contents [] shape.ways))

-- as many caches, where each has the room that it had
pub same_cores : (c0 c2 : List Sets) → ways_of c2 ≡ ways_of c0 → length c2 ≡ length c0
same_cores c0 c2 same = sym (length-map c2 (map (λ (s : Contents). s.ways))) ∙ ap length same ∙ length-map c0 (map (λ (s : Contents). s.ways))

pub bus-after : (shape : Geometry) (locations : ℕ) (old new : Hierarchy) (h0 h2 : Option HeldBus)
    → IsBus shape locations old.caches.items old.memory.items h0
    → length new.memory.items ≡ length old.memory.items
    → AllCoherent (counted_copies_of h2 new.caches.items) new.memory.items
    → ways_of new.caches.items ≡ ways_of old.caches.items →
    HasWholeLines shape locations (counted_copies_of h2 new.caches.items) new.memory.items
    → IfSome h2 (IsHeld new.caches.items new.memory.items)
    → IfSome h2 (IsPlaced shape locations)
    → IsBus shape locations new.caches.items new.memory.items h2
bus-after shape locations old new h0 h2 h size coherent ways lines awaited placed = record {
  coherent = coherent;
  lines = lines;
  awaited = awaited;
  placed = placed;
  shaped = ways ∙ rw (same_cores old.caches.items new.caches.items ways) h.shaped;
  some_core = rw (same_cores old.caches.items new.caches.items ways) h.some_core;
  few_cores = rw (same_cores old.caches.items new.caches.items ways) h.few_cores;
  few_locations = h.few_locations;
  some_word = h.some_word;
  few_lines = rw size h.few_lines;
  enough_lines = rw size h.enough_lines;
  as_many_lines = size ∙ h.as_many_lines;
}

-- a bus whose words stay
pub bus-kept : (shape : Geometry) (locations : ℕ) (old new : Hierarchy) (h0 h2 : Option HeldBus)
    → IsBus shape locations old.caches.items old.memory.items h0
    → length new.memory.items ≡ length old.memory.items
    → KeepsWords (counted_copies_of h0 old.caches.items) (counted_copies_of h2 new.caches.items) old.memory.items new.memory.items →
    ways_of new.caches.items ≡ ways_of old.caches.items
    → IfSome h2 (IsHeld new.caches.items new.memory.items)
    → IfSome h2 (IsPlaced shape locations)
    → IsBus shape locations new.caches.items new.memory.items h2
bus-kept shape locations old new h0 h2 h size keeps ways awaited placed = bus-after shape locations old new h0 h2 h size keeps.coherent ways
    (λ k b. lines-same shape.words locations (length old.memory.items)
    (current_words (counted_copies_of h0 old.caches.items) old.memory.items)
    (current_words (counted_copies_of h2 new.caches.items) new.memory.items) h.some_word h.enough_lines keeps.words
    h.lines k (rw size at b))
    awaited placed

-- a bus once a word was written, where nobody holds it then
pub bus-set : (shape : Geometry) (locations : ℕ) (old new : Hierarchy) (h0 : Option HeldBus) (loc value : ℕ)
    → IsBus shape locations old.caches.items old.memory.items h0
    → length new.memory.items ≡ length old.memory.items
    → loc < locations →
    SetsWord (loc / shape.words) (loc % shape.words) value (counted_copies_of h0 old.caches.items) new.caches.items old.memory.items new.memory.items
    → ways_of new.caches.items ≡ ways_of old.caches.items
    → IsBus shape locations new.caches.items new.memory.items None
bus-set shape locations old new h0 loc value h size within sets ways = bus-after shape locations old new h0 None h size sets.coherent ways
    (λ k b. lines-set shape.words locations (length old.memory.items)
    (current_words (counted_copies_of h0 old.caches.items) old.memory.items)
    (current_words new.caches.items new.memory.items) loc value h.some_word h.enough_lines within sets.offset_in
    sets.lines h.lines k (rw size at b))
    tt tt

-- a bus once a write access was made
pub bus-written : (t : Table) (held : Option HeldBus) (x : Updated) (shape : Geometry) (locations : ℕ) (old new : Hierarchy) (core loc : ℕ) →
    IsBus shape locations old.caches.items old.memory.items held
    → length new.memory.items ≡ length old.memory.items
    → loc < locations
    → AllCoherent (counted_copies_of held new.caches.items) new.memory.items
    → IfSome held (IsHeld new.caches.items new.memory.items)
    → ways_of new.caches.items ≡ ways_of old.caches.items →
    Updates t held core (loc / shape.words) (loc % shape.words) old.caches.items new.caches.items old.memory.items new.memory.items x
    → IsBus shape locations new.caches.items new.memory.items held
bus-written t held x shape locations old new core loc h size within coherent awaited ways writes =
    bus-after shape locations old new held held h size coherent ways
    (λ k b. lines-set shape.words locations (length old.memory.items)
    (current_words (counted_copies_of held old.caches.items) old.memory.items)
    (current_words (counted_copies_of held new.caches.items) new.memory.items) loc x.after h.some_word
    h.enough_lines within writes.offset_in writes.lines h.lines k (rw size at b))
    awaited h.placed

-- each core has as many sets as the shape says
pub cache-sets : (shape : Geometry) (locations : ℕ) (caches : List Sets) (memory : List Words) (held : Option HeldBus)
    (core : ℕ)
    → IsBus shape locations caches memory held
    → core < length caches
    → length (cache_of caches core) ≡ shape.sets
cache-sets shape locations caches memory held core h within =
    sym (length-map (cache_of caches core) (λ (s : Contents). s.ways))
    ∙ ap length (sym (get_or-map (map (λ (s : Contents). s.ways)) caches core []))
    ∙ ap (λ (l : List (List ℕ)). length (slice_index_or l core [])) h.shaped
    ∙ at (length caches) core within
  where
    at : (n i : ℕ) → i < n → length (slice_index_or (replicate n (replicate shape.sets shape.ways)) i []) ≡ shape.sets
    at zero i b = absurd (omega arith)
    at (suc n) zero b = length-replicate shape.sets shape.ways
    at (suc n) (suc i) b = at n i (omega arith)
