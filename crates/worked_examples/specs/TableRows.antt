-- The rows of the protocols' tables, as they are printed: what another core's GetS and GetM make of a copy, what a write in place
-- makes of it, and whether it is dirty when it is replaced.
use Rattle.std.specs.Prelude.{Bool, true, false, Option}
use Rattle.worked_examples.specs.Vocabulary.{State, Table}
use Rattle.protocol_tables.specs.declared.state.Snoop.{Snoop}

pub record Row : Type 0 where
  pub on_get_s : Snoop
  pub on_get_m : Snoop
  pub written : Option State
  pub evicts_dirty : Bool

-- the row of a state in a table
abbrev pub row_of : Table → State → Row
row_of t s = record { on_get_s = t.on_get_s s; on_get_m = t.on_get_m s; written = t.written s; evicts_dirty = t.evicts_dirty s }

-- a row as it is written down
abbrev pub row : Snoop → Snoop → Option State → Bool → Row
row on_get_s on_get_m written evicts_dirty =
    record { on_get_s = on_get_s; on_get_m = on_get_m; written = written; evicts_dirty = evicts_dirty }

-- `S supplies=no memory=no`, `S supplies=yes memory=no`, and `S supplies=yes memory=yes`
abbrev pub silent : State → Snoop
silent next = record { next = next; supplies = false; to_memory = false }

abbrev pub supplies : State → Snoop
supplies next = record { next = next; supplies = true; to_memory = false }

abbrev pub sends : State → Snoop
sends next = record { next = next; supplies = true; to_memory = true }

-- `evict=dirty` and `evict=clean`
abbrev pub dirty : Bool
dirty = true

abbrev pub clean : Bool
clean = false
