-- What the calls of an access that misses rest on, from what the calls before them did.
use Rattle.snoop_bus.proofs.Vocabulary.{◌≡◌, ℕ, ◌<◌, Option, Some, None, List, length, refl, ◌∙◌, slice_set, Table, Line, Victim}
use Rattle.snoop_bus.proofs.Vocabulary.{after_fill, Words, Sets, copy_in, copy_at, written_back}
use Rattle.cache_set.proofs.Numbers.{itself}
use Rattle.snoop_bus.proofs.CurrentWords.{copy_at-set}

-- the line that came in
pub filled_own : (caches : List Sets) (core line : ℕ) (copy : Line) (v : Option Victim) (new : Sets) → core < length caches →
    ((k : ℕ) → copy_in new k ≡ after_fill line copy v k (copy_at caches core k)) → copy_at (slice_set caches core new) core line ≡ Some copy
filled_own caches core line copy v new within filled = rw (itself core) at (copy_at-set caches core new core line within) ∙ filled line ∙ by_victim v
  where
    by_victim : (v : Option Victim) → after_fill line copy v line (copy_at caches core line) ≡ Some copy
    by_victim None = rw (itself line) refl
    by_victim (Some y) = rw (itself line) refl

-- memory once the line that left was written back
pub written_victim : (t : Table) (v w : Option Victim) (memory after : List Words) → after ≡ written_back t v memory → v ≡ w → after ≡ written_back t w memory
written_victim t v w memory after is same = rw (← same) is
