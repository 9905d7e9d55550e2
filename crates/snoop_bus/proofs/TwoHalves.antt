-- A whole access, from what its ask and its completion leave, one after the other.
use Rattle.snoop_bus.proofs.Vocabulary.{◌≡◌, ◌≢◌, ℕ, ◌<◌, false, length, slice_index, Option, Some, None, sym, ap, refl, ◌∙◌, WritesInPlace}
use Rattle.snoop_bus.proofs.Vocabulary.{Table, I, M, Request, GetS, GetM, copy_with, AccessReport, Hierarchy, Transaction, Words, Accessed}
use Rattle.snoop_bus.proofs.Vocabulary.{cache_of, copy_at, tags_of, current_words, counted_in, tag_at, asking, with_request, requested_by}
use Rattle.snoop_bus.proofs.Vocabulary.{request_in, asked_caches, asked_memory, awaited_in, completed_memory, in_halves, transaction_at}
use Rattle.snoop_bus.proofs.Vocabulary.{KeepsWords, Loads, Acquires, Completes, words_due, completion_at, true, Bool, whole_access}
use Rattle.snoop_bus.proofs.Vocabulary.{whole_memory, IsMadeWhole}
use Rattle.snoop_bus.proofs.AskCalls.{awaited-for, requested-for}
use Rattle.snoop_bus.proofs.UpgradeAsk.{hits-absent}
use Rattle.snoop_bus.proofs.WholeAccess.{load_halves, write_halves, load-memory, write-memory}

module _ (t : Table) (request : Request) (core line : ℕ) (x : Option Transaction) (old mid new : Hierarchy) (completion report : AccessReport) where
  -- a core asked for a line, and completed its access at once
  pub record Halves : Type 0 where
    pub asks : x ≡ transaction_at t request core line old.caches.items old.memory.items
    pub tags : tags_of mid.caches.items ≡ asked_caches t request core line (tags_of old.caches.items)
    pub memory : mid.memory.items ≡ asked_memory t request line old.caches.items old.memory.items
    pub own : cache_of mid.caches.items core ≡ cache_of old.caches.items core
    pub asked : KeepsWords old.caches.items (counted_in core line x mid.caches.items) old.memory.items mid.memory.items
    pub completed : KeepsWords (counted_in core line x mid.caches.items) new.caches.items mid.memory.items new.memory.items
    pub completes : Completes t x core line mid new completion
    pub both : report ≡ requested_by (request_in x) completion

  module _ (h : Halves) where
    awaited_is : awaited_in x ≡ (asking t request core line (tags_of old.caches.items)).awaited
    awaited_is = ap awaited_in h.asks ∙ awaited-for t request core line (current_words old.caches.items old.memory.items line) (tags_of old.caches.items)

    request_is : request_in x ≡ (asking t request core line (tags_of old.caches.items)).request
    request_is = ap request_in h.asks ∙ requested-for t request core line (current_words old.caches.items old.memory.items line) (tags_of old.caches.items)

    pub completion_is : with_request (request_in x) (completion_at t x core line mid.caches.items) ≡ in_halves t request core line (tags_of old.caches.items)
    completion_is = rw (request_is, awaited_is, h.tags) refl

    pub memory_is : new.memory.items
        ≡ completed_memory t core line
        (asking t request core line (tags_of old.caches.items)).awaited mid.caches.items
        (asked_memory t request line old.caches.items old.memory.items)
    memory_is = h.completes.memory ∙ rw (awaited_is, h.memory) refl

    -- where the whole access is both, so is memory after it
    pub made-whole : (write : Bool) → whole_access t write core line (tags_of old.caches.items) ≡ in_halves t request core line (tags_of old.caches.items)
        → whole_memory t write core line old.caches.items old.memory.items
        ≡ completed_memory t core line
        (asking t request core line (tags_of old.caches.items)).awaited mid.caches.items
        (asked_memory t request line old.caches.items old.memory.items)
        → IsMadeWhole t write core line old.caches.items new.caches.items old.memory.items new.memory.items report
    made-whole write halves memory = record {
      report_is = h.both ∙ ap (requested_by (request_in x)) h.completes.report_is ∙ ap (λ (a : Accessed). a.report) (completion_is ∙ sym halves);
      tags = h.completes.tags ∙ ap (λ (a : Accessed). a.caches) (completion_is ∙ sym halves);
      memory = memory_is ∙ sym memory;
    }

module _ (t : Table) (core line : ℕ) (x : Option Transaction) (old mid new : Hierarchy)
    (completion report : AccessReport) (within : line < length old.memory.items) where
  pub load-in_halves : (offset word : ℕ)
      → Halves t GetS core line x old mid new completion report
      → copy_at old.caches.items core line ≡ None
      → word ≡ slice_index (words_due x core line mid) offset
      → Loads t None core line offset old.caches.items new.caches.items old.memory.items new.memory.items word report
  load-in_halves offset word h absent is =
      let misses = sym (hits-absent t old.caches.items core line false absent) in
      record {
        word_is = is ∙ ap (λ (w : Words). slice_index w offset) (h.asked.words line within);
        made = made-whole t GetS core line x old mid new completion report h false (load_halves t core line (tags_of old.caches.items) misses)
            (load-memory t core line old.caches.items mid.caches.items old.memory.items h.own misses);
      }

  pub write-in_halves : WritesInPlace t.written
      → (words : Words) → Halves t GetM core line x old mid new completion report
      → tag_at core line (tags_of old.caches.items) ≢ Some I
      → words ≡ words_due x core line mid
      → copy_at new.caches.items core line ≡ Some (copy_with M (words_due x core line mid))
      → Acquires t None core line old.caches.items new.caches.items old.memory.items new.memory.items words report
  write-in_halves law words h valid is own = record {
    words_are = is ∙ h.asked.words line within;
    own = own ∙ ap (λ (w : Words). Some (copy_with M w)) (sym is);
    made = made-whole t GetM core line x old mid new completion report h true (write_halves t law core line (tags_of old.caches.items) valid)
        (write-memory t core line old.caches.items mid.caches.items old.memory.items h.own law valid);
  }
