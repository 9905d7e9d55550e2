-- What a bus always keeps: the copies that count are coherent, and lines are whole, one for each line of memory. Each call
-- rests on it and leaves it so. (Primer, chapter 2.)
use Rattle.std.specs.Prelude.{◌≡◌, ◌*◌, ◌≤◌, ◌<◌, ℕ, List, length, replicate, Option, IfSome}
use Rattle.std.specs.Int.{div_ceil}
use Rattle.snoop_bus.specs.Vocabulary.{most_cores, most_locations}
use Rattle.cache_set.specs.Geometry.{Geometry}
use Rattle.cache_set.specs.Lines.{Words, line_of_words}
use Rattle.cache_set.specs.Copies.{Sets}
use Rattle.cache_set.specs.inner.Copies.{ways_of}
use Rattle.snoop_bus.specs.Held.{counted_copies_of}
use Rattle.snoop_bus.specs.inner.Held.{IsHeld, IsPlaced}
use Rattle.snoop_bus.specs.declared.holding.HeldBus.{HeldBus}
use Rattle.snoop_bus.specs.Bus.{AllCoherent, BusModel, counted_copies, current_words, program_words}

-- each line has its words of the list of words that a program sees, and 0 at every other offset
abbrev pub HasWholeLines : Geometry → ℕ → List Sets → List Words → Type 0
HasWholeLines shape locations caches memory =
    (k : ℕ) → k < length memory → current_words caches memory k ≡ line_of_words shape.words (program_words shape locations caches memory) k

-- what holds of every bus: the copies that count are coherent, the holder's own copy is as its action has left it, each
-- cache of the bus's shape, cores and locations within their limits, and a line for each location
pub record IsBus (shape : Geometry) (locations : ℕ) (caches : List Sets) (memory : List Words) (held : Option HeldBus) : Type 0 where
  pub coherent : AllCoherent (counted_copies_of held caches) memory
  pub lines : HasWholeLines shape locations (counted_copies_of held caches) memory
  pub awaited : IfSome held (IsHeld caches memory)
  pub placed : IfSome held (IsPlaced shape locations)
  pub shaped : ways_of caches ≡ replicate (length caches) (replicate shape.sets shape.ways)
  pub some_core : 0 < length caches
  pub few_cores : length caches ≤ most_cores
  pub few_locations : locations ≤ most_locations
  pub some_word : 1 ≤ shape.words
  pub few_lines : length memory ≤ most_locations
  pub enough_lines : locations ≤ length memory * shape.words
  pub as_many_lines : length memory ≡ div_ceil locations shape.words

-- each line has its words, and 0 at every other offset
abbrev pub HasLines : BusModel → Type 0
HasLines b = HasWholeLines b.shape b.locations (counted_copies b) b.memory
