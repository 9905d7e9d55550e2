-- What is left of a copy, and of memory, once a dirty copy has gone there: line by line, and of all lines below one.
use Rattle.std.specs.Prelude.{◌≡◌, ℕ, nat_eq, nat_lt, if◌then◌else◌, List, map, Option, Some, None}
use Rattle.protocol_tables.specs.Laws.{is_dirty}
use Rattle.protocol_tables.specs.declared.state.State.{State}
use Rattle.cache_set.specs.declared.Line.{Line}
use Rattle.cache_set.specs.inner.Copy.{copy_with}
use Rattle.cache_set.specs.Lines.{Words, line_in}
use Rattle.cache_set.specs.Tags.{TagSet, tag_set}
use Rattle.cache_set.specs.inner.Tags.{clean}
use Rattle.cache_set.specs.Copies.{Sets, copy_in}

-- the copy once its words are in memory too
abbrev pub clean_copy : Line → Line
clean_copy copy = copy_with (clean copy.state) copy.words

-- the words that memory gets of a copy: its own where it is dirty, and none of any other
abbrev pub words_if_dirty : Option Line → Words → Words
words_if_dirty None memory = memory
words_if_dirty (Some copy) memory = (if is_dirty copy.state then copy.words else memory)

-- memory once a core's copy of one line has gone there, if it is dirty
abbrev pub DirtyWrittenAt : ℕ → Sets → List Words → List Words → Type 0
DirtyWrittenAt line sets old new =
    (k : ℕ) → line_in new k ≡ (if nat_eq k line then words_if_dirty (copy_in sets k) (line_in old k) else line_in old k)

-- a line and its state once the line with this number was settled, and once all below it were
abbrev pub clean_tag_at : ℕ → ℕ × State → ℕ × State
clean_tag_at line t = if nat_eq line t.0 then (t.0, clean t.1) else t

abbrev pub clean_tag_below : ℕ → ℕ × State → ℕ × State
clean_tag_below line t = if nat_lt t.0 line then (t.0, clean t.1) else t

abbrev pub cleaned_at : ℕ → TagSet → TagSet
cleaned_at line s = tag_set (map (clean_tag_at line) s.tags) s.ways

abbrev pub cleaned_below : ℕ → TagSet → TagSet
cleaned_below line s = tag_set (map (clean_tag_below line) s.tags) s.ways
