use Rattle.order_breaches.proofs.Vocabulary.{◌≡◌, ◌<◌, ◌*◌, ℕ, Some, slice_get, length, Entry, kept_in, slot_of, slots_of_a_core}
use Rattle.order_breaches.proofs.index.index_of.Given as goal

-- the entries so far are in the table, and nothing else does
abbrev pub invariant-loop-i : goal.invariant-loop-i
invariant-loop-i l = record {
  has : (k : ℕ) (e : Entry) → k < l.i → slice_get l.list k ≡ Some e → kept_in l.slots.items (slot_of e) ≡ Some k;
  only : (s k : ℕ) → kept_in l.slots.items s ≡ Some k → k < l.i;
  size : length l.slots.items ≡ l.cores * slots_of_a_core;
}
