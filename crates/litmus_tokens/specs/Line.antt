-- Lines of places. A line is one more than the LF bytes before the place; no reader has to count along.
use Rattle.std.specs.Prelude.{ℕ, ◌+◌, ◌-◌, List, length, take, count_by, ◌==◌}

-- The line of the place from which so many bytes of the text stand: 1, and the number of LF bytes before it.
abbrev pub line_of : List ℕ → ℕ → ℕ
line_of text remaining = 1 + count_by (λ b. b == 10) (take (length text - remaining) text)
