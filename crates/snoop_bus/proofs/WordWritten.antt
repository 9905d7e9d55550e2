-- A word is written to a copy that its core alone has.
use Rattle.snoop_bus.proofs.Vocabulary.{◌≡◌, ℕ, ◌<◌, Option, Some, IsSome, IfSome, option_map, List, length, refl, ap, ◌∙◌, slice_index}
use Rattle.snoop_bus.proofs.Vocabulary.{Table, M, copy_with, with_word, AccessReport, Words, Sets, copy_at, tags_of, ways_of, AllCoherent}
use Rattle.snoop_bus.proofs.Vocabulary.{ChangesCopy, KeepsWords, Acquires, Writes, in_place, state_of_copy, HeldBus, counted_copies_of}
use Rattle.snoop_bus.proofs.Vocabulary.{IsHeld, SetsWord}
use Rattle.snoop_bus.proofs.BesideLemmas.{held-placed, counted-changes, placed-counts}
use Rattle.snoop_bus.proofs.AcquireAsked.{completed_written}

pub present_own : (caches : List Sets) (core line : ℕ) (words : Words) → copy_at caches core line ≡ Some (copy_with M words) → IsSome (copy_at caches core line)
present_own caches core line words own = rw own refl

pub word_written : (t : Table) (held : Option HeldBus) (c0 c1 c2 : List Sets) (m0 m1 : List Words)
    (core line offset value : ℕ) (old : Words) (report : AccessReport)
    → line < length m0
    → offset < length old
    → length m1 ≡ length m0 →
    Acquires t held core line c0 c1 m0 m1 old report
    → KeepsWords (counted_copies_of held c0) (counted_copies_of held c1) m0 m1
    → IfSome held (IsHeld c1 m1)
    → ways_of c1 ≡ ways_of c0 →
    ChangesCopy core line (option_map (with_word offset value) (copy_at c1 core line)) c1 c2 →
    tags_of c2 ≡ tags_of c1 → ways_of c2 ≡ ways_of c1 →
    Writes t held core line offset value c0 c2 m0 m1 (slice_index old offset) report
    × AllCoherent (counted_copies_of held c2) m1
    × (ways_of c2 ≡ ways_of c0)
    × IfSome held (IsHeld c2 m1)
word_written t held c0 c1 c2 m0 m1 core line offset value old report within offset_in size a keeps awaited room to tags ways = (
  record {
    offset_in = set.offset_in;
    word_is = ap (λ (w : Words). slice_index w offset) a.words_are;
    lines = set.lines;
    made = record { report_is = a.made.report_is; tags = tags ∙ a.made.tags; memory = a.made.memory };
  },
  set.coherent,
  ways ∙ room,
  still,
)
  where
    placed : in_place (state_of_copy (copy_at c1 core line)) ≡ Some M
    placed = rw a.own refl

    still : IfSome held (IsHeld c2 m1)
    still = held-placed held c1 c2 m1 core line (option_map (with_word offset value) (copy_at c1 core line)) awaited ways placed (rw a.own refl) to

    changes : ChangesCopy core line
        (option_map (with_word offset value) (copy_at (counted_copies_of held c1) core line)) (counted_copies_of held c1)
        (counted_copies_of held c2)
    changes =
        rw (placed-counts held c1 m1 core line awaited placed)
        (counted-changes held c1 c2 m1 core line (option_map (with_word offset value) (copy_at c1 core line)) awaited still placed to)

    set : SetsWord line offset value (counted_copies_of held c0) (counted_copies_of held c2) m0 m1
    set =
        completed_written (counted_copies_of held c0) (counted_copies_of held c1) (counted_copies_of held c2) m0 m1 core
        line offset value old within (rw (← a.words_are) offset_in) size
        (placed-counts held c1 m1 core line awaited placed ∙ a.own) a.words_are keeps changes
