-- What the calls of a bus do, in the bus's own words, from what they do to its caches and memory.
use Rattle.snoop_bus.proofs.Vocabulary.{◌≡◌, ◌⊎◌, inl, inr, ℕ, ◌<◌, ◌≤◌, ◌*◌, ◌/◌, ◌%◌, Bool, IsTrue, Option, Some, None, List, length}
use Rattle.snoop_bus.proofs.Vocabulary.{refl, sym, ap, ◌∙◌, Table, AccessReport, Updated, Hierarchy, Geometry, Words, line_in}
use Rattle.snoop_bus.proofs.Vocabulary.{words_in_lines, rows_of, table_of_rows, Sets, tags_of, HeldBus, counted_copies_of, BusModel}
use Rattle.snoop_bus.proofs.Vocabulary.{bus_with, current_words, program_words, IsBus, IsCurrentWord, LoadsAt, WritesAt, KeepsHolder}
use Rattle.snoop_bus.proofs.Vocabulary.{MayGoOn, IsReady, KeepsWords, Loads, Updates, hits, true, false, whole_access, whole_memory}
use Rattle.snoop_bus.proofs.RowLemmas.{table_of-rows}
use Rattle.snoop_bus.proofs.HolderLemmas.{free-held}
use Rattle.snoop_bus.proofs.WordLemmas.{length-words, line_below, words-get, words-same, words-set}

-- a location that has a word has a line
pub loc_in : (words n : ℕ) (caches : List Sets) (memory : List Words) (loc : ℕ) → loc < length (words_in_lines words (current_words caches memory) n) → loc < n
loc_in words n caches memory loc b = rw (length-words words (current_words caches memory) n) at b

-- a core's access to a location of the bus
pub bus_ready : (shape : Geometry) (locations : ℕ) (h : Hierarchy) (held : Option HeldBus) (core loc : ℕ) →
    IsBus shape locations h.caches.items h.memory.items held → core < length h.caches.items →
    loc < length (program_words shape locations (counted_copies_of held h.caches.items) h.memory.items) → IsReady held core (loc / shape.words) h
bus_ready shape locations h held core loc b core_in word_in = record {
  coherent = b.coherent;
  awaited = b.awaited;
  core_in = core_in;
  few_cores = b.few_cores;
  line_in =
      line_below shape.words locations (length h.memory.items) loc b.some_word b.enough_lines
      (loc_in shape.words locations (counted_copies_of held h.caches.items) h.memory.items loc word_in);
}

-- what may go on: nobody holds the bus, or the access is a hit
pub free_or_hit : (t : Table) (shape : Geometry) (locations : ℕ) (caches : List Sets) (memory : List Words)
    (held : Option HeldBus) (core loc : ℕ) (write : Bool) →
    MayGoOn (bus_with t shape locations caches memory held) core loc write →
    (held ≡ None) ⊎ IsTrue (hits t core (loc / shape.words) write (tags_of caches))
free_or_hit t shape locations caches memory held core loc write (inl e) = inl (free-held held e)
free_or_hit t shape locations caches memory held core loc write (inr e) = inr (rw (table_of-rows t) at e)

module _ (t : Table) (shape : Geometry) (locations : ℕ) (old new : Hierarchy) (held : Option HeldBus) (core loc : ℕ) where
  abbrev before : BusModel
  before = bus_with t shape locations old.caches.items old.memory.items held

  abbrev after : BusModel
  after = bus_with t shape locations new.caches.items new.memory.items held

  same_holder : KeepsHolder before after
  same_holder = record { holder_is = refl; awaited_is = refl }

  back : t ≡ table_of_rows (rows_of t)
  back = sym (table_of-rows t)

  pub load_done : (word : ℕ) (report : AccessReport) → 0 < shape.words → locations ≤ length old.memory.items * shape.words → loc < locations →
      Loads t held core (loc / shape.words) (loc % shape.words) old.caches.items new.caches.items old.memory.items new.memory.items word report →
      KeepsWords (counted_copies_of held old.caches.items) (counted_copies_of held new.caches.items) old.memory.items new.memory.items
      → LoadsAt before after core loc word report
  load_done word report some enough within h keeps = record {
    word_is =
        words-get shape.words (current_words (counted_copies_of held old.caches.items) old.memory.items) locations loc within
        ∙ ap (λ (w : ℕ). Some w) (sym h.word_is);
    words =
        words-same shape.words locations (length old.memory.items)
        (current_words (counted_copies_of held old.caches.items) old.memory.items)
        (current_words (counted_copies_of held new.caches.items) new.memory.items) some enough keeps.words;
    report_is = h.made.report_is ∙ ap (λ (u : Table). (whole_access u false core (loc / shape.words) (tags_of old.caches.items)).report) back;
    contents = h.made.tags ∙ ap (λ (u : Table). (whole_access u false core (loc / shape.words) (tags_of old.caches.items)).caches) back;
    memory = h.made.memory ∙ ap (λ (u : Table). whole_memory u false core (loc / shape.words) old.caches.items old.memory.items) back;
    held = same_holder;
  }

  module _ (x : Updated) (within : loc < locations)
      (h : Updates t held core (loc / shape.words) (loc % shape.words) old.caches.items new.caches.items old.memory.items new.memory.items x)
    where
      -- the word that was there
      pub write_word : IsCurrentWord before loc x.before
      write_word =
          words-get shape.words (current_words (counted_copies_of held old.caches.items) old.memory.items) locations loc within
          ∙ ap (λ (w : ℕ). Some w) (sym h.word_is)

      -- the word that is written may rest on the one that was there
      pub write_done : 0 < shape.words → locations ≤ length old.memory.items * shape.words → WritesAt before after core loc x.after x.report
      write_done some enough = record {
        words =
            words-set shape.words locations (length old.memory.items)
            (current_words (counted_copies_of held old.caches.items) old.memory.items)
            (current_words (counted_copies_of held new.caches.items) new.memory.items) loc x.after some enough within
            h.offset_in h.lines;
        report_is = h.made.report_is ∙ ap (λ (u : Table). (whole_access u true core (loc / shape.words) (tags_of old.caches.items)).report) back;
        contents = h.made.tags ∙ ap (λ (u : Table). (whole_access u true core (loc / shape.words) (tags_of old.caches.items)).caches) back;
        memory = h.made.memory ∙ ap (λ (u : Table). whole_memory u true core (loc / shape.words) old.caches.items old.memory.items) back;
        held = same_holder;
      }

-- once memory has each line that is seen, its own words are the words that are seen
pub settled_words : (words locations : ℕ) (c0 : List Sets) (m0 m2 : List Words) → 0 < words → locations ≤ length m0 * words →
    ((k : ℕ) → k < length m0 → line_in m2 k ≡ current_words c0 m0 k)
    → words_in_lines words (line_in m2) locations ≡ words_in_lines words (current_words c0 m0) locations
settled_words words locations c0 m0 m2 some enough same = words-same words locations (length m0) (current_words c0 m0) (line_in m2) some enough same
