-- What a contract sees of a bus: the caches of all cores and memory, and the words that a program sees: a copy's where
-- there is one, else memory's. That these words are one list, whatever the caches hold, is what coherence buys. (Primer,
-- chapter 2.)
use Rattle.std.specs.Prelude.{◌≡◌, ◌≤◌, ◌<◌, ℕ, List, [], ◌∷◌, length, replicate, Option, None, unwrap_or, option_map}
use Rattle.std.specs.Option.{option_or}
use Rattle.cache_set.specs.Contents.{contents}
use Rattle.cache_set.specs.Geometry.{Geometry}
use Rattle.snoop_bus.specs.Vocabulary.{Table}
use Rattle.snoop_bus.specs.Rows.{TableColumns, rows_of}
use Rattle.cache_set.specs.Lines.{Words, line_in, words_in_lines}
use Rattle.cache_set.specs.Copies.{Sets, copy_in, copy_at}
use Rattle.snoop_bus.specs.Coherent.{Coherent}
use Rattle.snoop_bus.specs.Held.{counted_copies_of, holder_in}
use Rattle.snoop_bus.specs.declared.holding.BusAction.{BusAction}
use Rattle.snoop_bus.specs.declared.holding.HeldBus.{HeldBus}

-- the rows of the protocol's table, the shape of the caches, how many locations there are, the sets of each core's
-- cache with the copies in them, the lines in memory, and the action that holds the bus, if one does
pub record BusModel : Type 0 where
  pub rows : TableColumns
  pub shape : Geometry
  pub locations : ℕ
  pub caches : List Sets
  pub memory : List Words
  pub held : Option HeldBus

-- the bus of a protocol with this table
abbrev pub bus_with : Table → Geometry → ℕ → List Sets → List Words → Option HeldBus → BusModel
bus_with t shape locations caches memory held =
    record { rows = rows_of t; shape = shape; locations = locations; caches = caches; memory = memory; held = held }

-- the words of a line in the first core's cache that has a copy
abbrev pub words_among : List Sets → ℕ → Option Words
words_among [] line = None
words_among (sets ∷ caches) line = option_or (option_map (λ copy. copy.words) (copy_in sets line)) (words_among caches line)

-- the current words of a line: a copy's where there is one, else memory's
abbrev pub current_words : List Sets → List Words → ℕ → Words
current_words caches memory line = unwrap_or (words_among caches line) (line_in memory line)

-- the words that a program sees, one for each of so many locations
abbrev pub program_words : Geometry → ℕ → List Sets → List Words → List ℕ
program_words shape locations caches memory = words_in_lines shape.words (current_words caches memory) locations

-- the copies that count: those of the caches, and the words that the bus keeps as its holder's
abbrev pub counted_copies : BusModel → List Sets
counted_copies b = counted_copies_of b.held b.caches

-- the words that a program sees of a bus, one for each location
abbrev pub words_of : BusModel → List ℕ
words_of b = program_words b.shape b.locations (counted_copies b) b.memory

-- whose action holds the bus, if one does; and that nobody does
abbrev pub holder_of : BusModel → Option BusAction
holder_of b = holder_in b.held

abbrev pub IsFree : BusModel → Type 0
IsFree b = holder_of b ≡ None

-- every line is coherent, and no cache has a line past memory
pub record AllCoherent (caches : List Sets) (memory : List Words) : Type 0 where
  pub each : (k : ℕ) → k < length memory → Coherent (current_words caches memory k) (line_in memory k) (λ i. copy_at caches i k)
  pub within : (line i : ℕ) → length memory ≤ line → copy_at caches i line ≡ None

-- how many cores there are
abbrev pub cores_of : BusModel → ℕ
cores_of b = length b.caches

-- the copies that count are coherent with memory
abbrev pub IsCoherent : BusModel → Type 0
IsCoherent b = AllCoherent (counted_copies b) b.memory

-- empty caches of this shape for so many cores
abbrev pub empty_caches : ℕ → Geometry → List Sets
empty_caches cores shape = replicate cores (replicate shape.sets (contents [] shape.ways))

-- what no call changes: the protocol's table, the shape, and how many cores and locations there are
pub record IsSameMachine (old new : BusModel) : Type 0 where
  pub rows : new.rows ≡ old.rows
  pub shape : new.shape ≡ old.shape
  pub cores : cores_of new ≡ cores_of old
  pub locations : new.locations ≡ old.locations
