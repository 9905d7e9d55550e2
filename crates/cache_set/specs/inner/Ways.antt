-- How a set keeps its copies: in ways, each with a number, the most recently used first. A way in state I is empty: its line
-- left, and the next line that comes in takes it over.
use Rattle.std.specs.Prelude.{◌≡◌, ◌<◌, ◌≤◌, ◌-◌, ◌⊎◌, ℕ, nat_eq, Bool, true, false, if◌then◌else◌, ⊤, List, [], ◌∷◌, length, slice_get}
use Rattle.std.specs.Prelude.{Option, Some, None, option_map}
use Rattle.protocol_tables.specs.declared.state.State.{State}
use Rattle.protocol_tables.specs.declared.state.State.TheVariants.{I, S, E, O, M}
use Rattle.cache_set.specs.Limits.{most_ways}
use Rattle.cache_set.specs.declared.Line.{Line}
use Rattle.cache_set.specs.declared.Victim.{Victim}
use Rattle.cache_set.specs.declared.ways.Way.{Way}

-- whether a state says that there is no copy
abbrev pub is_invalid : State → Bool
is_invalid I = true
is_invalid S = false
is_invalid E = false
is_invalid O = false
is_invalid M = false

-- whether no line lies in a way
abbrev pub is_empty : Way → Bool
is_empty way = is_invalid way.copy.state

-- whether this line lies in a way
abbrev pub has_line : ℕ → Way → Bool
has_line line way = if is_empty way then false else nat_eq line way.line

-- the copies that lie in these ways
abbrev pub copies_in : List (ℕ × Way) → List (ℕ × Line)
copies_in [] = []
copies_in (e ∷ es) = if is_empty e.1 then copies_in es else (e.1.line, e.1.copy) ∷ copies_in es

-- the number of the way in which a line lies
abbrev pub way_of : ℕ → List (ℕ × Way) → Option ℕ
way_of line [] = None
way_of line (e ∷ es) = if has_line line e.1 then Some e.0 else way_of line es

-- whether a line lies in the way used last
abbrev pub is_most_recent : ℕ → List (ℕ × Way) → Bool
is_most_recent line [] = false
is_most_recent line (e ∷ es) = has_line line e.1

-- the number of the first way that is empty
abbrev pub first_empty : List (ℕ × Way) → Option ℕ
first_empty [] = None
first_empty (e ∷ es) = if is_empty e.1 then Some e.0 else first_empty es

-- the number of the first way that has a line
abbrev pub first_full : List (ℕ × Way) → Option ℕ
first_full [] = None
first_full (e ∷ es) = if is_empty e.1 then first_full es else Some e.0

-- the number of the way that a new line takes over: of the first that is empty, else of the one used longest ago
abbrev pub IsForNew : List (ℕ × Way) → ℕ → Type 0
IsForNew es number =
    (first_empty es ≡ Some number) ⊎ ((first_empty es ≡ None) × (option_map (λ e. e.0) (slice_get es (length es - 1)) ≡ Some number))

-- the copy in a way that another line takes over, as it is handed back: none of an empty way
abbrev pub copy_left : Way → Option Victim
copy_left way = if is_empty way then None else Some (record { line = way.line; content = way.copy })

-- each way's number is below this one
abbrev pub NumbersBelow : ℕ → List (ℕ × Way) → Type 0
NumbersBelow n [] = ⊤
NumbersBelow n (e ∷ es) = (e.0 < n) × NumbersBelow n es

-- what holds of the ways of every set with room for so many: they are all there, few, with the numbers below their count
pub record AreWays (es : List (ℕ × Way)) (room : ℕ) : Type 0 where
  pub few : room ≤ most_ways
  pub all : length es ≡ room
  pub numbered : NumbersBelow (length es) es
