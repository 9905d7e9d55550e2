-- The copies of lines in the caches of all cores, with their words. Coherence is said of one line and of its copies core by
-- core, so that neither sets nor the order of last use have a part in it.
use Rattle.std.specs.Prelude.{◌%◌, ℕ, List, [], length, map, slice_set, slice_index_or, Option}
use Rattle.cache_set.specs.declared.Line.{Line}
use Rattle.cache_set.specs.Contents.{Contents, contents, copy_of}
use Rattle.cache_set.specs.Tags.{TagSet, tag_set}

-- the sets of one core's cache
abbrev pub Sets : Type 0
Sets = List Contents

-- the set in which a line lies
abbrev pub set_at : Sets → ℕ → Contents
set_at sets line = slice_index_or sets (line % length sets) (contents [] 1)

-- the sets once the one in which a line lies was changed
abbrev pub in_set : ℕ → (Contents → Contents) → Sets → Sets
in_set line change sets = slice_set sets (line % length sets) (change (set_at sets line))

-- a core's copy of a line, looked for in its sets
abbrev pub copy_in : Sets → ℕ → Option Line
copy_in sets line = copy_of (set_at sets line) line

-- a core's sets
abbrev pub cache_of : List Sets → ℕ → Sets
cache_of caches core = slice_index_or caches core []

-- a core's copy of a line
abbrev pub copy_at : List Sets → ℕ → ℕ → Option Line
copy_at caches core line = copy_in (cache_of caches core) line

-- a set without its words
abbrev pub tags_in : Contents → TagSet
tags_in s = tag_set (map (λ e. (e.0, e.1.state)) s.copies) s.ways

-- all sets of all cores without their words
abbrev pub tags_of : List Sets → List (List TagSet)
tags_of caches = map (map tags_in) caches
