-- A copy of a line, and what a change makes of it. Nothing else in this folder looks at its words: which line gives way
-- goes by the order of use alone.
use Rattle.std.specs.Prelude.{ℕ, List, slice_set}
use Rattle.protocol_tables.specs.declared.state.State.{State}
use Rattle.cache_set.specs.declared.Line.{Line}

-- a copy in this state, with these words
abbrev pub copy_with : State → List ℕ → Line
copy_with state words = record { state = state; words = words }

-- the same copy in another state
abbrev pub with_state : State → Line → Line
with_state state copy = record copy { state = state }

-- the same copy with another word at this place of the line
abbrev pub with_word : ℕ → ℕ → Line → Line
with_word place value copy = record copy { words = slice_set copy.words place value }
