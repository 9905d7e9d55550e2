-- What one who looks at a machine finds there: a core, a pending store, a line of a set; nothing where there is no such
-- one.
use Rattle.std.specs.Prelude.{ℕ, Option, option_map, slice_get}
use Rattle.std.specs.Option.{option_and_then}
use Rattle.machine_core.specs.Vocabulary.{CoreState, with_words}
use Rattle.tso_terms.specs.declared.execution.Entry.{Entry}
use Rattle.snoop_bus.specs.declared.looking.CachedLine.{CachedLine}
use Rattle.snoop_bus.specs.inner.Accesses.{ranked_in}
use Rattle.machine_core.specs.Running.{Running}

-- a core, if the test has one of that number
abbrev pub core_numbered : Running → ℕ → Option CoreState
core_numbered m core = slice_get m.state.flat.cores core

-- its pending store with this number, counted from the oldest, as the entry that it commits
abbrev pub pending_at : Running → ℕ → ℕ → Option Entry
pending_at m core number = option_and_then (λ s. slice_get s.pending number) (core_numbered m core)

-- the line of this rank in a core's set
abbrev pub cached_line : Running → ℕ → ℕ → ℕ → Option CachedLine
cached_line m core set rank =
    option_map (with_words m.statistics.caches.shape.words m.state.flat.memory) (ranked_in m.statistics.caches.contents core set rank)
