-- The lines and states of all caches, since words play no part in what an access is: the sets of each core, what another
-- core's request leaves of them, and which copies go to memory. (Primer, chapters 6 and 7; which copies are sent or
-- written to memory is this project's profile.)
use Rattle.std.specs.Prelude.{◌+◌, ◌%◌, ℕ, zero, suc, Bool, false, Option, Some, None, is_some, if◌then◌else◌, List, []}
use Rattle.std.specs.Prelude.{◌∷◌, length, map, slice_set, slice_index_or}
use Rattle.std.specs.List.{list_any}
use Rattle.tso_terms.specs.declared.instruction.Core.{Core}
use Rattle.protocol_tables.specs.Tables.{Table}
use Rattle.protocol_tables.specs.declared.state.Snoop.{Snoop}
use Rattle.protocol_tables.specs.declared.state.State.{State}
use Rattle.cache_set.specs.Tags.{TagSet, tag_set, tag_of, used, filled, leaving, snooped}

-- the sets of one core's cache
abbrev pub TagSets : Type 0
TagSets = List TagSet

-- the set in which a line lies
abbrev pub tags_at : TagSets → ℕ → TagSet
tags_at sets line = slice_index_or sets (line % length sets) (tag_set [] 1)

-- the state of a line, if it is there
abbrev pub tag_in : TagSets → ℕ → Option State
tag_in sets line = tag_of (tags_at sets line) line

-- the sets once the one in which a line lies was changed
abbrev pub at_line : ℕ → (TagSet → TagSet) → TagSets → TagSets
at_line line change sets = slice_set sets (line % length sets) (change (tags_at sets line))

-- a core's sets
abbrev pub sets_of : List TagSets → ℕ → TagSets
sets_of caches core = slice_index_or caches core []

-- all caches once that of one core was changed
abbrev pub at_core : ℕ → (TagSets → TagSets) → List TagSets → List TagSets
at_core core change caches = slice_set caches core (change (sets_of caches core))

-- all caches once every one but that of one core was changed
abbrev pub at_others : ℕ → (TagSets → TagSets) → List TagSets → List TagSets
at_others core change [] = []
at_others zero change (sets ∷ caches) = sets ∷ map change caches
at_others (suc core) change (sets ∷ caches) = change sets ∷ at_others core change caches

-- a core's request for a line is seen by the others
abbrev pub requested : (State → Snoop) → ℕ → ℕ → List TagSets → List TagSets
requested on_request core line caches = at_others core (at_line line (snooped on_request line)) caches

-- whether a cache holds the line
abbrev pub is_held : ℕ → List TagSets → Bool
is_held line caches = list_any (λ sets. is_some (tag_in sets line)) caches

abbrev pub sends_in : (State → Snoop) → Option State → Bool
sends_in on_get_s None = false
sends_in on_get_s (Some state) = (on_get_s state).to_memory

abbrev pub supplies_in : (State → Snoop) → Option State → Bool
supplies_in on_request None = false
supplies_in on_request (Some state) = (on_request state).supplies

-- the first core from this number on whose copy of a line is so
abbrev pub first_from : ℕ → (Option State → Bool) → ℕ → List TagSets → Option Core
first_from core is line [] = None
first_from core is line (sets ∷ caches) =
    (if is (tag_in sets line) then Some (record { 0 = core }) else first_from (core + 1) is line caches)

-- the first core from this number on whose copy is sent to memory on GetS
abbrev pub flusher_from : ℕ → (State → Snoop) → ℕ → List TagSets → Option Core
flusher_from core on_get_s line caches = first_from core (sends_in on_get_s) line caches

-- the first core from this number on whose copy supplies the line's words at this request
abbrev pub first_supplier : ℕ → (State → Snoop) → ℕ → List TagSets → Option Core
first_supplier core on_request line caches = first_from core (supplies_in on_request) line caches

-- the state of the copy of a line of each of so many cores, by core; `None` past the last one
abbrev pub states_by_core : ℕ → ℕ → List TagSets → List (Option State)
states_by_core zero line caches = []
states_by_core (suc cores) line [] = None ∷ states_by_core cores line []
states_by_core (suc cores) line (sets ∷ caches) = tag_in sets line ∷ states_by_core cores line caches

abbrev pub dirty_in : Table → Option (ℕ × State) → Bool
dirty_in t None = false
dirty_in t (Some leaving) = t.evicts_dirty leaving.1

-- whether a new line sends a dirty one away to memory
abbrev pub writes_back : Table → ℕ → ℕ → List TagSets → Bool
writes_back t core line caches = dirty_in t (leaving (tags_at (sets_of caches core) line))

abbrev pub used_by : ℕ → ℕ → State → List TagSets → List TagSets
used_by core line state caches = at_core core (at_line line (used line state)) caches

abbrev pub filled_by : ℕ → ℕ → State → List TagSets → List TagSets
filled_by core line state caches = at_core core (at_line line (filled line state)) caches
