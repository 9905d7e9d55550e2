-- Of the laws of a snooping protocol those that public contracts name: which states are dirty, so that memory may be stale
-- (M and O), and which copies are written without the bus (M and E). (Primer, chapters 6 and 7, for the states.)
use Rattle.std.specs.Prelude.{◌≡◌, Bool, true, false, Option, Some, None}
use Rattle.protocol_tables.specs.declared.state.State.{State}
use Rattle.protocol_tables.specs.declared.state.State.TheVariants.{I, S, E, O, M}

abbrev pub is_dirty : State → Bool
is_dirty M = true
is_dirty O = true
is_dirty E = false
is_dirty S = false
is_dirty I = false

-- what a write in place makes of a copy: M and E may be written without the bus, and become M
abbrev pub in_place : State → Option State
in_place M = Some M
in_place O = None
in_place E = Some M
in_place S = None
in_place I = None

-- M and E alone are written in place, and become M
abbrev pub WritesInPlace : (State → Option State) → Type 0
WritesInPlace written = (s : State) → written s ≡ in_place s
