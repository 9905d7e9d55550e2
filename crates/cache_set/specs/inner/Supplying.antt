-- The words of a line that a core asks for: those of a copy that supplies them, or memory's where none does. (Primer,
-- chapter 7.)
use Rattle.std.specs.Prelude.{◌≡◌, ◌<◌, ◌⊎◌, ℕ, if◌then◌else◌, List, length, Option, Some, None, unwrap_or}
use Rattle.protocol_tables.specs.declared.state.Snoop.{Snoop}
use Rattle.protocol_tables.specs.declared.state.State.{State}
use Rattle.cache_set.specs.declared.Line.{Line}
use Rattle.cache_set.specs.Lines.{Words}
use Rattle.cache_set.specs.Copies.{Sets, copy_at}

-- the words of a copy that supplies them
abbrev pub supplied_of : (State → Snoop) → Option Line → Option Words
supplied_of on_request None = None
supplied_of on_request (Some copy) = (if (on_request copy.state).supplies then Some copy.words else None)

-- the words of a line: those of a copy that supplies them, or memory's where none does
abbrev pub Supplied : (State → Snoop) → List Sets → ℕ → Words → Words → Type 0
Supplied on_request caches line memory words =
    ((words ≡ memory) × ((i : ℕ) → i < length caches → supplied_of on_request (copy_at caches i line) ≡ None))
    ⊎ ((i : ℕ) × (supplied_of on_request (copy_at caches i line) ≡ Some words))

-- these words were found, if a copy supplies any: a line's words are these, or memory's where there are none
abbrev pub HasSupplied : (State → Snoop) → List Sets → ℕ → Option Words → Type 0
HasSupplied on_request caches line found = (memory : Words) → Supplied on_request caches line memory (unwrap_or found memory)
