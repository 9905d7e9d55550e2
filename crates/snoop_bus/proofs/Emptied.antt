-- A bus that begins anew: its caches are emptied, and memory gets its first words again.
use Rattle.snoop_bus.proofs.Vocabulary.{arith, ◌≡◌, ℕ, ◌≤◌, None, refl, Option, sym, ap, ◌∙◌, List, [], ◌∷◌, length, map, replicate, Table}
use Rattle.snoop_bus.proofs.Vocabulary.{rows_of, Words, words_in_lines, lines_of_words, Sets, current_words, empty_caches, BusModel}
use Rattle.snoop_bus.proofs.Vocabulary.{words_of, contents, ways_of, emptied, length-map-range_with_len, most_words, div_ceil, Geometry}
use Rattle.snoop_bus.proofs.Vocabulary.{IsBus, HeldBus, new_bus, div_ceil_times}
use Rattle.snoop_bus.proofs.NewLemmas.{map-replicate, new-bus, new-words}

emptied-sets : (sets : Sets) → map emptied sets ≡ map (λ ways. contents [] ways) (map (λ s. s.ways) sets)
emptied-sets [] = refl
emptied-sets (s ∷ sets) = ap (λ ss. emptied s ∷ ss) (emptied-sets sets)

emptied-caches : (caches : List Sets) → map (map emptied) caches ≡ map (map (λ ways. contents [] ways)) (ways_of caches)
emptied-caches [] = refl
emptied-caches (sets ∷ caches) =
    ap (λ s. s ∷ map (map emptied) caches) (emptied-sets sets)
    ∙ ap (λ cs. map (λ ways. contents [] ways) (map (λ s. s.ways) sets) ∷ cs) (emptied-caches caches)

all-emptied : (shape : Geometry) (caches : List Sets)
    → ways_of caches ≡ replicate (length caches) (replicate shape.sets shape.ways)
    → map (map emptied) caches ≡ empty_caches (length caches) shape
all-emptied shape caches shaped =
    emptied-caches caches
    ∙ ap (map (map (λ ways. contents [] ways))) shaped
    ∙ map-replicate (map (λ ways. contents [] ways)) (length caches) (replicate shape.sets shape.ways)
    ∙ ap (replicate (length caches)) (map-replicate (λ ways. contents [] ways) shape.sets shape.ways)

pub count-words : (b : BusModel) → length (words_of b) ≡ b.locations
count-words b = length-map-range_with_len _ 0 b.locations

-- these caches and this memory are those of a new bus
pub record IsNew (t : Table) (shape : Geometry) (locations cores : ℕ) (caches : List Sets) (memory : List Words) (init : List ℕ) : Type 0 where
  pub bus : IsBus shape locations caches memory None
  pub words : words_in_lines shape.words (current_words caches memory) locations ≡ init
  pub exact : record { rows = rows_of t; shape = shape; locations = locations; caches = caches; memory = memory; held = None } ≡ new_bus t cores shape init

pub begins-anew : (t : Table) (shape : Geometry) (locations : ℕ) (c0 c2 : List Sets) (m0 m2 : List Words)
    (h : Option HeldBus) (init : List ℕ)
    → IsBus shape locations c0 m0 h
    → shape.words ≤ most_words
    → length init ≡ locations → c2 ≡ map (map emptied) c0 → m2 ≡ lines_of_words shape.words init (length m0) → IsNew t shape locations (length c0) c2 m2 init
begins-anew t shape locations c0 c2 m0 m2 h init b size same caches memory =
    let lines : length m0 ≡ div_ceil (length init) shape.words = b.as_many_lines ∙ ap (λ n. div_ceil n shape.words) (sym same) in
    let enough = div_ceil_times (length init) shape.words b.some_word in
    let caches_are : c2 ≡ empty_caches (length c0) shape = caches ∙ all-emptied shape c0 b.shaped in
    let memory_is : m2 ≡ lines_of_words shape.words init (div_ceil (length init) shape.words) = memory ∙ ap (lines_of_words shape.words init) lines in
    let few = b.few_locations in
    record {
      bus = rw (caches_are, memory_is, ← same)
          (new-bus (length c0) (div_ceil (length init) shape.words) shape init b.some_core b.few_cores b.some_word size (omega arith) enough.0 enough.1 refl);
      words = rw (caches_are, memory_is, ← same) (new-words shape.words (div_ceil (length init) shape.words) (length c0) shape init b.some_word size enough.0);
      exact = rw (caches_are, memory_is, ← same) refl;
    }
