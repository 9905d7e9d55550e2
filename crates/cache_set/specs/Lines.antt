-- Lines of words: coherence is kept line by line, and a program reads and writes words. Location l lies in line l / words
-- at offset l % words, where a line has so many words; each line has room for four, and the offsets past its words are 0.
use Rattle.std.specs.Prelude.{ℕ, ◌+◌, ◌*◌, ◌/◌, ◌%◌, List, [], map, nat_lt, slice_index, slice_index_or, if◌then◌else◌}
use Rattle.std.specs.List.{range_with_len}
use Rattle.cache_set.specs.Limits.{most_words}

-- the words of a line, offset by offset
abbrev pub Words : Type 0
Words = List ℕ

-- a line of memory
abbrev pub line_in : List Words → ℕ → Words
line_in memory line = slice_index_or memory line []

-- the word of a location, where the lines are these
abbrev pub word_in_lines : ℕ → (ℕ → Words) → ℕ → ℕ
word_in_lines words lines loc = slice_index (lines (loc / words)) (loc % words)

-- the words of so many locations
abbrev pub words_in_lines : ℕ → (ℕ → Words) → ℕ → List ℕ
words_in_lines words lines locations = map (word_in_lines words lines) (range_with_len 0 locations)

-- the word at an offset in a line, where the locations have these words: 0 past the line's words, and past the last location
abbrev pub offset_of : ℕ → List ℕ → ℕ → ℕ → ℕ
offset_of words init line offset = if nat_lt offset words then slice_index init (line * words + offset) else 0

abbrev pub line_of_words : ℕ → List ℕ → ℕ → Words
line_of_words words init line = map (offset_of words init line) (range_with_len 0 most_words)

-- the lines of these words
abbrev pub lines_of_words : ℕ → List ℕ → ℕ → List Words
lines_of_words words init lines = map (line_of_words words init) (range_with_len 0 lines)
