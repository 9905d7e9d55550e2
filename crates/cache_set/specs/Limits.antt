-- How large a cache, a set and a line may be, as plain numbers, with which the code's constants are compared by a law.
use Rattle.std.specs.Prelude.{ℕ}

-- maximum number of sets of a cache
abbrev pub most_sets : ℕ
most_sets = 8

-- maximum number of lines that a set has room for
abbrev pub most_ways : ℕ
most_ways = 8

-- maximum number of words of a line
abbrev pub most_words : ℕ
most_words = 4
