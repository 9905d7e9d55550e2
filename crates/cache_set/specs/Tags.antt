-- The tags of a set: the numbers of its lines with their states, as a cache keeps them apart from the
-- words. What each kind of use makes of them. (Primer, chapter 6, for the states; that the line used
-- longest ago gives way to a new one is this project's profile.)
use Rattle.std.specs.Prelude.{◌-◌, ℕ, List, ◌∷◌, map, take, slice_get, Option, Some, None, nat_eq, if◌then◌else◌}
use Rattle.std.specs.Map.{lookup, remove_entry}
use Rattle.protocol_tables.specs.declared.state.Snoop.{Snoop}
use Rattle.protocol_tables.specs.declared.state.State.{State}
use Rattle.protocol_tables.specs.declared.state.State.TheVariants.{E, I, M, O, S}

-- each line with its state, the most recently used first; and how many there may be
pub record TagSet : Type 0 where
  pub tags : List (ℕ × State)
  pub ways : ℕ

abbrev pub tag_set : List (ℕ × State) → ℕ → TagSet
tag_set tags ways = record { tags = tags; ways = ways }

-- the state of a line, if it is there
abbrev pub tag_of : TagSet → ℕ → Option State
tag_of s line = lookup (nat_eq line) s.tags

-- a line that is there is used: it goes to the front in this state, and the others stay in their order
abbrev pub used : ℕ → State → TagSet → TagSet
used line state s = tag_set ((line, state) ∷ remove_entry (nat_eq line) s.tags) s.ways

-- a new line comes in at the front in this state; where that is one too many, the last leaves
abbrev pub filled : ℕ → State → TagSet → TagSet
filled line state s = tag_set (take s.ways ((line, state) ∷ s.tags)) s.ways

-- what leaves where a new line comes in: the last of a full set, and nothing of any other
abbrev pub leaving : TagSet → Option (ℕ × State)
leaving s = slice_get s.tags (s.ways - 1)

-- a line goes to another state where it stands
abbrev pub restated : ℕ → State → TagSet → TagSet
restated line state s = tag_set (map (λ t. (if nat_eq line t.0 then (t.0, state) else t)) s.tags) s.ways

-- a line leaves, and the others stay in their order
abbrev pub removed : ℕ → TagSet → TagSet
removed line s = tag_set (remove_entry (nat_eq line) s.tags) s.ways

-- a line goes to the state that a protocol's table names: in I it leaves
abbrev pub in_next : ℕ → State → TagSet → TagSet
in_next line I s = removed line s
in_next line S s = restated line S s
in_next line E s = restated line E s
in_next line O s = restated line O s
in_next line M s = restated line M s

abbrev pub snooped_in : (State → Snoop) → ℕ → Option State → TagSet → TagSet
snooped_in on_request line None s = s
snooped_in on_request line (Some state) s = in_next line (on_request state).next s

-- another core's request is seen: the line, if it is there, goes to its next state where it stands, or leaves
abbrev pub snooped : (State → Snoop) → ℕ → TagSet → TagSet
snooped on_request line s = snooped_in on_request line (tag_of s line) s
