-- Where copies of a line are, and what a fill leaves of them: one copy more of the line, and one copy less of the line that
-- gave way.
use Rattle.std.specs.Prelude.{◌≡◌, ◌≢◌, ◌<◌, ◌%◌, ℕ, List, [], length, map, slice_index_or, nat_eq, if◌then◌else◌, Option, None, option_map}
use Rattle.protocol_tables.specs.declared.state.State.{State}
use Rattle.cache_set.specs.declared.Line.{Line}
use Rattle.cache_set.specs.declared.Victim.{Victim}
use Rattle.cache_set.specs.Contents.{Contents, contents, copy_of}
use Rattle.cache_set.specs.inner.Contents.{after_fill}
use Rattle.cache_set.specs.Copies.{Sets, cache_of, copy_in}

-- a set once every line has left it
abbrev pub emptied : Contents → Contents
emptied s = contents [] s.ways

-- the state of a core's copy of a line, if it has one
abbrev pub copy_state_in : Sets → ℕ → Option State
copy_state_in sets line = option_map (λ copy. copy.state) (copy_in sets line)

abbrev pub state_at : List Sets → ℕ → ℕ → Option State
state_at caches core line = copy_state_in (cache_of caches core) line

-- a core's copy of one line was changed so, and no other of its copies
abbrev pub OnlyAt : ℕ → (Option Line → Option Line) → Sets → Sets → Type 0
OnlyAt line change old new = (k : ℕ) → copy_in new k ≡ (if nat_eq k line then change (copy_in old k) else copy_in old k)

-- a core's copies once this one of a line came in and this victim left
abbrev pub IsAfterFill : ℕ → Line → Sets → Sets → Option Victim → Type 0
IsAfterFill line copy old new victim = (k : ℕ) → copy_in new k ≡ after_fill line copy victim k (copy_in old k)

-- each line lies in its own set alone
abbrev pub AtHome : Sets → Type 0
AtHome sets = (i line : ℕ) → i < length sets → line % length sets ≢ i → copy_of (slice_index_or sets i (contents [] 1)) line ≡ None

-- for how many lines each of a core's sets has room
abbrev pub ways_in : Sets → List ℕ
ways_in sets = map (λ s. s.ways) sets

-- for how many lines each set of each core has room
abbrev pub ways_of : List Sets → List (List ℕ)
ways_of caches = map (map (λ s. s.ways)) caches
