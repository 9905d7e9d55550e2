use Rattle.snoop_bus.proofs.Vocabulary.{◌≡◌, ◌<◌, ℕ, false, length, map, nat_lt, if◌then◌else◌, is_dirty, cleaned, sets_of, state_of_copy}
use Rattle.snoop_bus.proofs.Vocabulary.{copy_at, tags_of, KeepsWords}
use Rattle.snoop_bus.proofs.hierarchy.Hierarchy.settle.Given as goal

abbrev pub invariant-loop-core : goal.invariant-loop-core
invariant-loop-core g l = record {
  words : KeepsWords l.fn.self.caches.items l.self.caches.items l.fn.self.memory.items l.self.memory.items;
  size : length l.self.memory.items ≡ length l.fn.self.memory.items;
  clean : (i k : ℕ) → i < l.core → is_dirty (state_of_copy (copy_at l.self.caches.items i k)) ≡ false;
  tags : (i : ℕ)
      → sets_of (tags_of l.self.caches.items) i
      ≡ (if nat_lt i l.core
      then map cleaned (sets_of (tags_of l.fn.self.caches.items) i)
      else sets_of (tags_of l.fn.self.caches.items) i);
}
