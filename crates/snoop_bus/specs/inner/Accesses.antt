-- What the calls of a bus leave, said of its copies. Beside an action that holds the bus
-- only a hit may be made, and none at the line that is being written.
use Rattle.std.specs.Prelude.{◌≡◌, ◌≢◌, ◌⊎◌, ℕ, Bool, false, IsTrue, Option, Some, None, option_map, List, [], slice_get, slice_index_or}
use Rattle.snoop_bus.specs.Vocabulary.{Core, is_dirty, Loc, M, State}
use Rattle.cache_set.specs.Contents.{Contents, contents}
use Rattle.snoop_bus.specs.declared.holding.BusAction.{BusAction}
use Rattle.snoop_bus.specs.declared.holding.Stage.TheVariants.{Load, Locked}
use Rattle.snoop_bus.specs.declared.looking.CachedLine.{CachedLine}
use Rattle.cache_set.specs.Lines.{line_in, words_in_lines}
use Rattle.cache_set.specs.Tags.{tag_set}
use Rattle.cache_set.specs.CacheTags.{TagSets, sets_of}
use Rattle.snoop_bus.specs.inner.CacheContents.{settled}
use Rattle.cache_set.specs.Copies.{cache_of}
use Rattle.snoop_bus.specs.Bus.{BusModel, words_of, IsFree}
use Rattle.snoop_bus.specs.Asks.{tag_at, or_invalid}
use Rattle.snoop_bus.specs.Accesses.{contents_of, line_of_location, would_hit, with_words}

-- the copies of a core's set with this number, with their words
abbrev pub copies_of : BusModel → ℕ → ℕ → Contents
copies_of b core set = slice_index_or (cache_of b.caches core) set (contents [] 1)

-- the line of this rank in a core's set, the most recently used first
abbrev pub ranked_in : List TagSets → ℕ → ℕ → ℕ → Option (ℕ × State)
ranked_in caches core set rank = slice_get (slice_index_or (sets_of caches core) set (tag_set [] 1)).tags rank

abbrev pub ranked_line : BusModel → ℕ → ℕ → ℕ → Option CachedLine
ranked_line b core set rank = option_map (with_words b.shape.words (words_of b)) (ranked_in (contents_of b) core set rank)

-- no cache has the line in a dirty state
abbrev pub IsClean : List TagSets → ℕ → Type 0
IsClean caches line = (core : ℕ) → is_dirty (or_invalid (tag_at core line caches)) ≡ false

abbrev pub memory_words_of : BusModel → List ℕ
memory_words_of b = words_in_lines b.shape.words (line_in b.memory) b.locations

-- a core's access to the line for which another core's write access holds the bus doesn't hit
abbrev pub KeepsOut : BusModel → Core → Loc → Bool → BusAction → Type 0
KeepsOut b core loc hit h = line_of_location b h.loc.0 ≡ line_of_location b loc.0 → h.stage ≢ Load → h.core ≢ core → hit ≡ false

-- an access that may be made whole: nobody holds the bus, or it hits
abbrev pub MayGoOn : BusModel → ℕ → ℕ → Bool → Type 0
MayGoOn b core loc write = IsFree b ⊎ IsTrue (would_hit b core loc write)

-- the contents once every dirty line was written to memory
abbrev pub contents_settled : BusModel → List TagSets
contents_settled b = settled (contents_of b)

-- while a core's write access holds the bus, or its locked instruction, no other core has its line; and where a locked
-- instruction has read, its core has the line in M
pub record StandsAlone (b : BusModel) (h : BusAction) : Type 0 where
  pub others : h.stage ≢ Load → (core : ℕ) → core ≢ h.core.0 → tag_at core (line_of_location b h.loc.0) (contents_of b) ≡ None
  pub own : h.stage ≡ Locked → tag_at h.core.0 (line_of_location b h.loc.0) (contents_of b) ≡ Some M
