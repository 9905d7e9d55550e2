-- The caches of all cores and memory at an access that is made whole: what it rests on, and what it leaves.
use Rattle.std.specs.Prelude.{◌≡◌, ◌<◌, ◌≤◌, ◌⊎◌, ℕ, Bool, true, false, IsTrue, nat_eq, if◌then◌else◌, List, length, slice_set, slice_index}
use Rattle.std.specs.Prelude.{Option, Some, None, IfSome}
use Rattle.snoop_bus.specs.Vocabulary.{copy_with, M, most_cores, Table}
use Rattle.snoop_bus.specs.declared.access.AccessReport.{AccessReport}
use Rattle.snoop_bus.specs.declared.access.Updated.{Updated}
use Rattle.snoop_bus.specs.declared.hierarchy.Hierarchy.{Hierarchy}
use Rattle.snoop_bus.specs.declared.holding.HeldBus.{HeldBus}
use Rattle.cache_set.specs.Lines.{Words}
use Rattle.cache_set.specs.CacheTags.{TagSets}
use Rattle.cache_set.specs.Copies.{Sets, copy_at, tags_of}
use Rattle.cache_set.specs.inner.Copies.{ways_of}
use Rattle.snoop_bus.specs.Held.{counted_copies_of}
use Rattle.snoop_bus.specs.inner.Held.{IsHeld}
use Rattle.snoop_bus.specs.Bus.{AllCoherent, current_words}
use Rattle.snoop_bus.specs.Asks.{hits, whole_access, whole_memory}

-- a core may ask for a line of memory, or hit it beside an action that holds the bus: the copies that count are
-- coherent, and the holder's own copy is as its action has left it
pub record IsReady (held : Option HeldBus) (core line : ℕ) (h : Hierarchy) : Type 0 where
  pub coherent : AllCoherent (counted_copies_of held h.caches.items) h.memory.items
  pub awaited : IfSome held (IsHeld h.caches.items h.memory.items)
  pub core_in : core < length h.caches.items
  pub few_cores : length h.caches.items ≤ most_cores
  pub line_in : line < length h.memory.items

-- a write access may be made whole: nobody holds the bus, or it hits
abbrev pub MayWrite : Table → Option HeldBus → ℕ → ℕ → List TagSets → Type 0
MayWrite t held core line caches = (held ≡ None) ⊎ IsTrue (hits t core line true caches)

-- the caches and memory are coherent, the words that are seen stay, and so does the room in each set
pub record KeepsWords (old_caches new_caches : List Sets) (old_memory new_memory : List Words) : Type 0 where
  pub coherent : AllCoherent new_caches new_memory
  pub words : (k : ℕ) → k < length old_memory → current_words new_caches new_memory k ≡ current_words old_caches old_memory k
  pub ways : ways_of new_caches ≡ ways_of old_caches

-- so many lines, of which one changes, and of it the word at this place alone
abbrev pub OnlyWordAt : ℕ → ℕ → ℕ → ℕ → (ℕ → Words) → (ℕ → Words) → Type 0
OnlyWordAt line offset value count old new =
    (k : ℕ) → k < count → new k ≡ (if nat_eq k line then slice_set (old line) offset value else old k)

-- the same beside an action that holds the bus: the copies that count keep their words, and the holder's own copy stays as its
-- action has left it
pub record KeepsBeside (held : Option HeldBus) (old_caches new_caches : List Sets) (old_memory new_memory : List Words) : Type 0 where
  pub words : KeepsWords (counted_copies_of held old_caches) (counted_copies_of held new_caches) old_memory new_memory
  pub awaited : IfSome held (IsHeld new_caches new_memory)
  pub ways : ways_of new_caches ≡ ways_of old_caches

-- the caches and memory are coherent, and the word at this offset in a line alone is seen to change
pub record SetsWord (line offset value : ℕ) (old_caches new_caches : List Sets) (old_memory new_memory : List Words) : Type 0 where
  pub coherent : AllCoherent new_caches new_memory
  pub offset_in : offset < length (current_words old_caches old_memory line)
  pub lines : OnlyWordAt line offset value (length old_memory) (current_words old_caches old_memory) (current_words new_caches new_memory)

-- the current words of a line, where those that the bus keeps count as the holder's
abbrev pub counted_words : Option HeldBus → List Sets → List Words → ℕ → Words
counted_words held caches memory line = current_words (counted_copies_of held caches) memory line

-- an access that is made whole did this, and what it leaves goes by the protocol's table
pub record IsMadeWhole (t : Table) (write : Bool) (core line : ℕ) (old new : List Sets) (before after : List Words) (report : AccessReport) : Type 0 where
  pub report_is : report ≡ (whole_access t write core line (tags_of old)).report
  pub tags : tags_of new ≡ (whole_access t write core line (tags_of old)).caches
  pub memory : after ≡ whole_memory t write core line old before

module _ (t : Table) (held : Option HeldBus) (core line : ℕ) where
  -- a load answered the word at this offset in a line and did this
  pub record Loads (offset : ℕ) (old new : List Sets) (before after : List Words) (word : ℕ) (report : AccessReport) : Type 0 where
    pub word_is : word ≡ slice_index (counted_words held old before line) offset
    pub made : IsMadeWhole t false core line old new before after report

  -- a write access found these words and did this: the core has the line in M
  pub record Acquires (old new : List Sets) (before after : List Words) (words : Words) (report : AccessReport) : Type 0 where
    pub words_are : words ≡ counted_words held old before line
    pub own : copy_at new core line ≡ Some (copy_with M words)
    pub made : IsMadeWhole t true core line old new before after report

  -- a write access wrote this value at an offset in a line, found that word there and did this: that word alone
  -- is seen to change
  pub record Writes (offset value : ℕ) (old new : List Sets) (before after : List Words) (word : ℕ) (report : AccessReport) : Type 0 where
    pub offset_in : offset < length (counted_words held old before line)
    pub word_is : word ≡ slice_index (counted_words held old before line) offset
    pub lines : OnlyWordAt line offset value (length before) (counted_words held old before) (counted_words held new after)
    pub made : IsMadeWhole t true core line old new before after report

  -- a write access made this of the word that it found
  abbrev pub Updates : ℕ → List Sets → List Sets → List Words → List Words → Updated → Type 0
  Updates offset old new before after u = Writes offset u.after old new before after u.before u.report
