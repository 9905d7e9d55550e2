-- The contents of all caches once no line is dirty: lines in M and O are then in S, since memory has their words.
use Rattle.std.specs.Prelude.{List, map, Bool, false, Option, None, Some}
use Rattle.cache_set.specs.inner.Tags.{cleaned}
use Rattle.cache_set.specs.CacheTags.{TagSets}
use Rattle.snoop_bus.specs.declared.access.Departure.{Departure}

-- once all dirty lines were written to memory
abbrev pub settled : List TagSets → List TagSets
settled caches = map (map cleaned) caches

abbrev pub was_written_back : Option Departure → Bool
was_written_back None = false
was_written_back (Some left) = left.written_back
