-- What each call makes of a bus, in words of the bus's own: whoever is above it needs no others. (Primer,
-- chapters 2, 6 and 7; which line gives way, and which copies are sent to memory, is this project's profile.)
use Rattle.std.specs.Prelude.{◌≡◌, ℕ, ◌/◌, Bool, true, false, Option, Some, None, List, length, slice_get, slice_set}
use Rattle.std.specs.Int.{div_ceil}
use Rattle.snoop_bus.specs.Vocabulary.{Core, Loc, State, Table}
use Rattle.snoop_bus.specs.declared.access.AccessReport.{AccessReport}
use Rattle.snoop_bus.specs.declared.access.BusRequest.{BusRequest}
use Rattle.cache_set.specs.Geometry.{Geometry}
use Rattle.snoop_bus.specs.Rows.{table_of_rows}
use Rattle.cache_set.specs.Lines.{Words, lines_of_words, line_of_words}
use Rattle.snoop_bus.specs.CacheContents.{Accessed}
use Rattle.cache_set.specs.CacheTags.{TagSets}
use Rattle.cache_set.specs.Copies.{cache_of, tags_of}
use Rattle.snoop_bus.specs.Bus.{BusModel, bus_with, words_of, holder_of, empty_caches}
use Rattle.snoop_bus.specs.Held.{transaction_in, holder, stage_for}
use Rattle.snoop_bus.specs.Asks.{Awaited, AskedAccess, hits, request_for, asking, asked_memory, awaited_in, completed, completed_memory}
use Rattle.snoop_bus.specs.Asks.{whole_access, whole_memory}
use Rattle.snoop_bus.specs.declared.looking.CachedLine.{CachedLine}

-- memory with these words: as many lines as they need
abbrev pub lines_with : Geometry → List ℕ → List Words
lines_with shape init = lines_of_words shape.words init (div_ceil (length init) shape.words)

-- a bus for so many cores, with empty caches of this shape, and these words in memory; nobody holds it
abbrev pub new_bus : Table → ℕ → Geometry → List ℕ → BusModel
new_bus table cores shape init =
    bus_with table shape (length init) (empty_caches cores shape) (lines_with shape init) None

-- the lines and states of all caches, core by core and set by set, the most recently used first
abbrev pub contents_of : BusModel → List TagSets
contents_of b = tags_of b.caches

-- the lines in memory, after the caches, and memory's own word at each location
abbrev pub memory_of : BusModel → List Words
memory_of b = b.memory

-- the line in which a location lies
abbrev pub line_of_location : BusModel → ℕ → ℕ
line_of_location b loc = loc / b.shape.words

-- a core's load at a location: what it does, and the contents after it
abbrev pub load_of : BusModel → ℕ → ℕ → Accessed
load_of b core loc = whole_access (table_of_rows b.rows) false core (line_of_location b loc) (contents_of b)

-- a core's write access at a location
abbrev pub write_of : BusModel → ℕ → ℕ → Accessed
write_of b core loc = whole_access (table_of_rows b.rows) true core (line_of_location b loc) (contents_of b)

-- memory after each of them
abbrev pub memory_after_load : BusModel → ℕ → ℕ → List Words
memory_after_load b core loc = whole_memory (table_of_rows b.rows) false core (line_of_location b loc) b.caches b.memory

abbrev pub memory_after_write : BusModel → ℕ → ℕ → List Words
memory_after_write b core loc = whole_memory (table_of_rows b.rows) true core (line_of_location b loc) b.caches b.memory

-- whether a core's access at a location is a hit, which needs no bus
abbrev pub would_hit : BusModel → ℕ → ℕ → Bool → Bool
would_hit b core loc write = hits (table_of_rows b.rows) core (line_of_location b loc) write (contents_of b)

-- the word that a program sees at a location
abbrev pub IsCurrentWord : BusModel → ℕ → ℕ → Type 0
IsCurrentWord b loc word = slice_get (words_of b) loc ≡ Some word

-- what the action that holds the bus awaits: nothing where it asked for a write access that hits
abbrev pub awaited_of : BusModel → Option Awaited
awaited_of b = awaited_in (transaction_in b.held)

-- the first half of a core's access at a location: what goes on the bus, what it awaits, the contents after it, and memory after it
abbrev pub ask_of : BusModel → ℕ → ℕ → Bool → AskedAccess
ask_of b core loc write = asking (table_of_rows b.rows) (request_for write) core (line_of_location b loc) (contents_of b)

abbrev pub memory_after_ask : BusModel → ℕ → Bool → List Words
memory_after_ask b loc write = asked_memory (table_of_rows b.rows) (request_for write) (line_of_location b loc) b.caches b.memory

-- the second half: what it does, the contents after it, and memory after it
abbrev pub completion_of : BusModel → ℕ → ℕ → Accessed
completion_of b core loc = completed (table_of_rows b.rows) core (line_of_location b loc) (awaited_of b) (contents_of b)

abbrev pub memory_after_completion : BusModel → ℕ → ℕ → List Words
memory_after_completion b core loc = completed_memory (table_of_rows b.rows) core (line_of_location b loc) (awaited_of b) b.caches b.memory

-- who holds the bus, and what is awaited, is as it was
pub record KeepsHolder (old new : BusModel) : Type 0 where
  pub holder_is : holder_of new ≡ holder_of old
  pub awaited_is : awaited_of new ≡ awaited_of old

-- a core's load at a location answered this word and did this: the word is the one that is seen, no word
-- that is seen changes, and contents and memory are those after the load
pub record LoadsAt (old new : BusModel) (core loc word : ℕ) (report : AccessReport) : Type 0 where
  pub word_is : IsCurrentWord old loc word
  pub words : words_of new ≡ words_of old
  pub report_is : report ≡ (load_of old core loc).report
  pub contents : contents_of new ≡ (load_of old core loc).caches
  pub memory : memory_of new ≡ memory_after_load old core loc
  pub held : KeepsHolder old new

-- a core's write access at a location wrote this word and did this: no other word that is seen changes, and
-- contents and memory are those after the write access
pub record WritesAt (old new : BusModel) (core loc word : ℕ) (report : AccessReport) : Type 0 where
  pub words : words_of new ≡ slice_set (words_of old) loc word
  pub report_is : report ≡ (write_of old core loc).report
  pub contents : contents_of new ≡ (write_of old core loc).caches
  pub memory : memory_of new ≡ memory_after_write old core loc
  pub held : KeepsHolder old new

-- a core asked for an access at a location, and this went on the bus: its action holds the bus and awaits what it asked for, no word that is seen
-- changes, contents and memory are those after the ask, and the core's own copies are as they were
pub record AsksFor (old new : BusModel) (core : Core) (loc : Loc) (write : Bool) (request : Option BusRequest) : Type 0 where
  pub request_is : request ≡ (ask_of old core.0 loc.0 write).request
  pub own : cache_of new.caches core.0 ≡ cache_of old.caches core.0
  pub words : words_of new ≡ words_of old
  pub holder_is : holder_of new ≡ Some (holder core loc (stage_for write))
  pub awaited_is : awaited_of new ≡ (ask_of old core.0 loc.0 write).awaited
  pub contents : contents_of new ≡ (ask_of old core.0 loc.0 write).caches
  pub memory : memory_of new ≡ memory_after_ask old loc.0 write

-- a core's action at a location was completed and did this: contents and memory are those after the completion
pub record CompletesAt (old new : BusModel) (core loc : ℕ) (report : AccessReport) : Type 0 where
  pub report_is : report ≡ (completion_of old core loc).report
  pub contents : contents_of new ≡ (completion_of old core loc).caches
  pub memory : memory_of new ≡ memory_after_completion old core loc

-- a line in this state, where lines have so many words, and these words are seen
abbrev pub with_words : ℕ → List ℕ → ℕ × State → CachedLine
with_words words seen tag = record { line = tag.0; state = tag.1; words = line_of_words words seen tag.0 }
