-- The second half of an access, over the caches of all cores and memory: what it begins with, and what it leaves.
use Rattle.std.specs.Prelude.{◌≡◌, ◌<◌, ℕ, List, length, Option}
use Rattle.snoop_bus.specs.Vocabulary.{Table}
use Rattle.snoop_bus.specs.declared.access.AccessReport.{AccessReport}
use Rattle.snoop_bus.specs.declared.holding.Stage.{Stage}
use Rattle.snoop_bus.specs.declared.hierarchy.Hierarchy.{Hierarchy}
use Rattle.snoop_bus.specs.declared.holding.Transaction.{Transaction}
use Rattle.cache_set.specs.Lines.{Words}
use Rattle.snoop_bus.specs.CacheContents.{Accessed}
use Rattle.cache_set.specs.Copies.{Sets, cache_of, copy_at, tags_of}
use Rattle.snoop_bus.specs.Held.{counted_in}
use Rattle.snoop_bus.specs.inner.Held.{Awaits}
use Rattle.snoop_bus.specs.Bus.{AllCoherent, current_words}
use Rattle.snoop_bus.specs.Asks.{awaited_in, completed, completed_memory}

-- a core's action is at this stage of an access to a line of memory: the copies that count are coherent, the words that
-- the bus keeps among them
pub record IsAwaited (stage : Stage) (x : Option Transaction) (core line : ℕ) (h : Hierarchy) : Type 0 where
  pub coherent : AllCoherent (counted_in core line x h.caches.items) h.memory.items
  pub core_in : core < length h.caches.items
  pub some_set : 0 < length (cache_of h.caches.items core)
  pub line_in : line < length h.memory.items
  pub awaits : Awaits stage x (copy_at h.caches.items core line)

-- the words that are due to the core: those that the bus keeps, or that are seen where it keeps none
abbrev pub words_due : Option Transaction → ℕ → ℕ → Hierarchy → Words
words_due x core line h = current_words (counted_in core line x h.caches.items) h.memory.items line

-- the completion: what it does, and the lines and states after it
abbrev pub completion_at : Table → Option Transaction → ℕ → ℕ → List Sets → Accessed
completion_at t x core line caches = completed t core line (awaited_in x) (tags_of caches)

-- an access was completed and did this: what is left goes by the protocol's table
pub record Completes (t : Table) (x : Option Transaction) (core line : ℕ) (old new : Hierarchy) (report : AccessReport) : Type 0 where
  pub report_is : report ≡ (completion_at t x core line old.caches.items).report
  pub tags : tags_of new.caches.items ≡ (completion_at t x core line old.caches.items).caches
  pub memory : new.memory.items ≡ completed_memory t core line (awaited_in x) old.caches.items old.memory.items
