-- What a call does to a reader: which bytes are taken.
use Rattle.std.specs.Prelude.{ℕ, ◌≤◌, List, length, Option}
use Rattle.std.specs.Io.KnownBytes.{Consumes}

-- at most so many bytes were taken
abbrev pub ConsumesAtMost : Option (List ℕ) → Option (List ℕ) → ℕ → Type 0
ConsumesAtMost old new most = (bytes : List ℕ) × Consumes old new bytes × (length bytes ≤ most)
