-- What a bus has once the access of its holder was completed.
use Rattle.snoop_bus.proofs.Vocabulary.{◌≡◌, ◌/◌, ◌%◌, ℕ, Option, Some, None, List, length, slice_index, refl, sym, ap, ◌∙◌, Core, Loc}
use Rattle.snoop_bus.proofs.Vocabulary.{Table, Transient, SmD, AccessReport, Hierarchy, HeldBus, Stage, Locked, M, Transaction, Geometry}
use Rattle.snoop_bus.proofs.Vocabulary.{Words, state_of_copy, Sets, copy_at, ways_of, victim_at, counted_copies_of, counted_in, holder}
use Rattle.snoop_bus.proofs.Vocabulary.{held_by, BusModel, bus_with, words_of, holder_of, program_words, current_words, IsSameMachine}
use Rattle.snoop_bus.proofs.Vocabulary.{IsBus, awaited_in, completed_memory, completed_memory_in, IsCurrentWord, CompletesAt, words_due}
use Rattle.snoop_bus.proofs.Vocabulary.{Completes, KeepsWords}
use Rattle.cache_set.specs.declared.shape.Target.{Target}
use Rattle.snoop_bus.proofs.MemoryLemmas.{length-written_back}
use Rattle.snoop_bus.proofs.WordLemmas.{words-get, words-same}
use Rattle.snoop_bus.proofs.NewLemmas.{same_cores, bus-kept}
use Rattle.snoop_bus.proofs.HolderLemmas.{Holds, holds, same_held}
use Rattle.snoop_bus.proofs.UpgradeAsk.{now_held}
use Rattle.snoop_bus.proofs.RowLemmas.{table_of-rows}

-- as many lines of memory after a completion
pub length-completed : (t : Table) (core line : ℕ) (x : Option Transaction) (caches : List Sets) (memory : List Words)
    → length (completed_memory t core line (awaited_in x) caches memory) ≡ length memory
length-completed t core line None caches memory = refl
length-completed t core line (Some x) caches memory = by_transient x.transient
  where
    by_transient : (y : Transient) → length (completed_memory_in t core line y caches memory) ≡ length memory
    by_transient SmD = refl
    by_transient _ = length-written_back t (victim_at caches core line) memory

module _ (t : Table) (shape : Geometry) (locations : ℕ) (held : Option HeldBus) (now : BusModel) (old new : Hierarchy)
    (h : HeldBus) (core : Core) (loc : Loc) (stage : Stage) (target : Target) where
  -- an action holds the bus, and its access is completed
  pub record Completing : Type 0 where
    pub now_is : bus_with t shape locations old.caches.items old.memory.items held ≡ now
    pub bus : IsBus shape locations old.caches.items old.memory.items held
    pub holds : holder_of now ≡ Some (holder core loc stage)
    pub found : held ≡ Some h
    pub target_is : target ≡ record { core = core.0; line = loc.0 / shape.words; offset = loc.0 % shape.words }
    pub ways : ways_of new.caches.items ≡ ways_of old.caches.items

  module _ (s : Completing) where
    some : (x : Option Transaction) × Holds old.caches.items old.memory.items shape locations core loc stage held x
    some = holds old.caches.items old.memory.items shape locations core loc stage held (rw (← s.now_is) at s.holds) s.bus.awaited s.bus.placed

    held_is : h ≡ held_by core loc stage (loc.0 / shape.words) some.0
    held_is = same_held held h (held_by core loc stage (loc.0 / shape.words) some.0) s.found some.1.held_is

    known : Holds old.caches.items old.memory.items shape locations core loc stage held h.transaction
    known = rw (ap (λ (x : HeldBus). x.transaction) held_is) some.1

    size : (report : AccessReport) → Completes t h.transaction target.core target.line old new report → length new.memory.items ≡ length old.memory.items
    size report ok = ap length ok.memory ∙ length-completed t target.core target.line h.transaction old.caches.items old.memory.items

    -- the word that was seen is answered
    pub word_due : (word : ℕ) → word ≡ slice_index (words_due h.transaction target.core target.line old) target.offset → IsCurrentWord now loc.0 word
    word_due word e = rw (← s.now_is, known.held_is)
        (words-get shape.words
        (current_words (counted_in core.0 (loc.0 / shape.words) h.transaction old.caches.items) old.memory.items)
        locations loc.0 known.loc_in
        ∙ ap (λ (w : ℕ). Some w) (sym (rw s.target_is at e)))

    -- what goes by the protocol's table
    pub completes : (report : AccessReport) (left : Option HeldBus)
        → Completes t h.transaction target.core target.line old new report
        → CompletesAt now (bus_with t shape locations new.caches.items new.memory.items left) core.0 loc.0 report
    completes report left ok =
        let there = rw s.target_is at ok in
        rw (← s.now_is, known.held_is) (record {
          report_is = rw (table_of-rows t) there.report_is;
          contents = rw (table_of-rows t) there.tags;
          memory = rw (table_of-rows t) there.memory;
        })

    pub same_machine : (left : Option HeldBus) → IsSameMachine now (bus_with t shape locations new.caches.items new.memory.items left)
    same_machine left = rw (← s.now_is) (record { rows = refl; shape = refl; cores = same_cores old.caches.items new.caches.items s.ways; locations = refl })

    -- no word that is seen has changed
    module _ (keeps : KeepsWords (counted_in target.core target.line h.transaction old.caches.items) new.caches.items old.memory.items new.memory.items) where
      there : KeepsWords (counted_copies_of held old.caches.items) new.caches.items old.memory.items new.memory.items
      there = rw known.held_is (rw s.target_is at keeps)

      pub words_stay : program_words shape locations new.caches.items new.memory.items ≡ words_of now
      words_stay = rw (← s.now_is)
          (words-same shape.words locations (length old.memory.items)
          (current_words (counted_copies_of held old.caches.items) old.memory.items)
          (current_words new.caches.items new.memory.items) s.bus.some_word s.bus.enough_lines there.words)

      pub words_beside : (left : HeldBus)
          → left ≡ held_by core loc Locked h.line None
          → program_words shape locations (counted_copies_of (Some left) new.caches.items) new.memory.items
          ≡ words_of now
      words_beside left is = rw is words_stay

      pub freed : (report : AccessReport)
          → Completes t h.transaction target.core target.line old new report
          → IsBus shape locations new.caches.items new.memory.items None
      freed report ok = bus-kept shape locations old new held None s.bus (size report ok) there s.ways tt tt

      -- a locked instruction that has read keeps the bus
      pub locked : (report : AccessReport) (left : HeldBus)
          → left ≡ held_by core loc Locked h.line None
          → state_of_copy (copy_at new.caches.items target.core target.line) ≡ M →
          Completes t h.transaction target.core target.line old new report → IsBus shape locations new.caches.items new.memory.items (Some left)
      locked report left is own ok = rw (is, held_is)
          (bus-kept shape locations old new held (Some (held_by core loc Locked (loc.0 / shape.words) None)) s.bus (size report ok) there s.ways
          (now_held old.caches.items new.caches.items old.memory.items new.memory.items core loc Locked
          (loc.0 / shape.words) None s.ways known.core_in known.some_set known.within (size report ok)
          (rw s.target_is at own))
          (record { loc_in = known.loc_in; line_is = refl }))
