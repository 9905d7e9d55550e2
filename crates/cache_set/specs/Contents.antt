-- The contents of one set of a cache: copies of lines in the order of their last use, and which of them leaves where a new
-- line finds the set full. (That the line used longest ago gives way to a new one is this project's profile.)
use Rattle.std.specs.Prelude.{◌-◌, ℕ, nat_eq, List, slice_get, Option, option_map}
use Rattle.std.specs.Map.{lookup}
use Rattle.cache_set.specs.declared.Line.{Line}
use Rattle.cache_set.specs.declared.Victim.{Victim}

-- the copies, each with the number of its line, the most recently used first; and how many there may be
pub record Contents : Type 0 where
  pub copies : List (ℕ × Line)
  pub ways : ℕ

abbrev pub contents : List (ℕ × Line) → ℕ → Contents
contents copies ways = record { copies = copies; ways = ways }

-- the copy of a line, if the set has one
abbrev pub copy_of : Contents → ℕ → Option Line
copy_of s line = lookup (nat_eq line) s.copies

-- an entry that leaves, as it is handed back
abbrev pub as_victim : ℕ × Line → Victim
as_victim e = record { line = e.0; content = e.1 }

-- what leaves where a new copy comes in: the last entry of a full set, and nothing of any other
abbrev pub victim_of : Contents → Option Victim
victim_of s = option_map as_victim (slice_get s.copies (s.ways - 1))
