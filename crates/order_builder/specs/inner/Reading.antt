-- An order as it is read from the lines of a text, or the first fault in their order.
use Rattle.std.specs.Prelude.{ℕ, Bool, true, false, ◌||◌, ◌≡◌, ◌+◌, ◌-◌, ◌^◌, ◌==◌, get_or, List, [], ◌∷◌, length, take, drop, Option, Some}
use Rattle.std.specs.Prelude.{None, Result, Ok, Err, codes, if◌then◌else◌}
use Rattle.std.specs.List.{position}
use Rattle.std.specs.Option.{option_map}
use Rattle.std.specs.Str.{bytes_eq}
use Rattle.tso_terms.specs.Litmus.{Litmus}
use Rattle.basic_laws.specs.Types.{Entry, Kind, R, W, F, LR, LW}
use Rattle.order_builder.specs.Lines.{lines_of}
use Rattle.tso_terms.specs.Decimals.{decimal_value}
use Rattle.order_builder.specs.Numbers.{is_number}
use Rattle.order_builder.specs.inner.Numbers.{number_within}
use Rattle.order_builder.specs.declared.fault.OrderFault.{OrderFault}
use Rattle.order_builder.specs.declared.fault.OrderFault.TheVariants.{NoOrder, BadLine, BadCount}

-- one step after the other, as long as each finds something
infixl 10 ◌>>=◌
abbrev pub ◌>>=◌ : {A B : Type 0} → Option A → (A → Option B) → Option B
(Some x) >>= f = f x
None >>= f = None

-- what comes before a place, and what after it
abbrev pub halves_at : List ℕ → ℕ → List ℕ × List ℕ
halves_at text i = (take i text, drop (i + 1) text)

-- what comes before the first such byte, and what after it
unfoldable pub split_once : ℕ → List ℕ → Option (List ℕ × List ℕ)
split_once byte text = option_map (halves_at text) (position (λ b. b == byte) text)

-- whether a line of the text begins at this place
unfoldable pub starts_line : List ℕ → ℕ → Bool
starts_line text at = (at == 0) || (get_or text (at - 1) 0 == 10)

-- what comes after a prefix
unfoldable pub without_prefix : List ℕ → List ℕ → Option (List ℕ)
without_prefix prefix text = if bytes_eq (take (length prefix) text) prefix then Some (drop (length prefix) text) else None

-- the kind of an entry that has a location
unfoldable pub kind_of : List ℕ → Option Kind
kind_of text =
    if bytes_eq text (codes "R") then Some R
    else (if bytes_eq text (codes "W") then Some W
    else (if bytes_eq text (codes "LR") then Some LR
    else (if bytes_eq text (codes "LW") then Some LW
    else None)))

-- the number of the location of this name
unfoldable pub location_named : Litmus → List ℕ → Option ℕ
location_named t name = position (λ other. bytes_eq other name) t.locations

-- an entry of this core and place
abbrev pub entry_at : ℕ × ℕ → Kind → ℕ → ℕ → Entry
entry_at at kind loc value = record { core = record { 0 = at.0 }; place = at.1; kind = kind; loc = record { 0 = loc }; value = value }

-- `Pc:p`, the core and the place
unfoldable pub place_in : List ℕ → Option (ℕ × ℕ)
place_in text = do
  numbers ← without_prefix (codes "P") text
  halves ← split_once 58 numbers
  core ← number_within 255 halves.0
  place ← number_within 255 halves.1
  Some (core, place)

-- `x=v`, the location and the value
unfoldable pub access_in : Litmus → List ℕ → Option (ℕ × ℕ)
access_in t text = do
  halves ← split_once 61 text
  loc ← location_named t halves.0
  value ← number_within (2 ^ 32 - 1) halves.1
  Some (loc, value)

-- `K x=v`, or `F`
unfoldable pub action_in : Litmus → ℕ × ℕ → List ℕ → Option Entry
action_in t at text = if bytes_eq text (codes "F") then Some (entry_at at F 0 0) else do
  halves ← split_once 32 text
  kind ← kind_of halves.0
  access ← access_in t halves.1
  Some (entry_at at kind access.0 access.1)

-- the entry that a line is
unfoldable pub entry_in : Litmus → List ℕ → Option Entry
entry_in t line = do
  halves ← split_once 32 line
  at ← place_in halves.0
  action_in t at halves.1

-- the digits, if they are a number
abbrev pub numeral : List ℕ → Option (List ℕ)
numeral digits = if is_number digits then Some digits else None

-- the digits of a line `Endorder n`
unfoldable pub end_in : List ℕ → Option (List ℕ)
end_in line = do
  digits ← without_prefix (codes "Endorder ") line
  numeral digits

-- an entry before those that are read after it
abbrev pub onto : Entry → Result (List Entry) OrderFault → Result (List Entry) OrderFault
onto e (Ok es) = Ok (e ∷ es)
onto e (Err fault) = Err fault

-- what a line gives: the end, an entry before what the lines after it give, or a fault
abbrev pub line_gives : ℕ → ℕ → Option (List ℕ) → Option Entry → Result (List Entry) OrderFault → Result (List Entry) OrderFault
line_gives number count (Some digits) entry after = if decimal_value digits == count then Ok [] else Err BadCount
line_gives number count None (Some e) after = onto e after
line_gives number count None None after = Err (BadLine number)

-- the entries of these lines, which come after so many lines up to `Order`, and then after so many entries
unfoldable pub entries_in : Litmus → ℕ → ℕ → List (List ℕ) → Result (List Entry) OrderFault
entries_in t start count [] = Err BadCount
entries_in t start count (line ∷ lines) =
    line_gives (start + count + 1) count (end_in line) (entry_in t line) (entries_in t start (count + 1) lines)

-- how many lines there are up to the first that is `Order`, and those after it; so many come before these
unfoldable pub order_start : ℕ → List (List ℕ) → Option (ℕ × List (List ℕ))
order_start before [] = None
order_start before (line ∷ lines) =
    if bytes_eq line (codes "Order") then Some (before + 1, lines) else order_start (before + 1) lines

-- these lines are one, of which it is said whether it is `Order`, and then those after it
abbrev pub IsFirstOfLines : Bool → List (List ℕ) → List (List ℕ) → Type 0
IsFirstOfLines is_order after lines = (line : List ℕ) × (lines ≡ line ∷ after) × (bytes_eq line (codes "Order") ≡ is_order)

-- the first of these lines is another
abbrev pub IsOtherFirst : List (List ℕ) → Type 0
IsOtherFirst lines = (after : List (List ℕ)) × IsFirstOfLines false after lines

-- at this place a line begins that is `Order`, and these come after it
abbrev pub IsOrderLineAt : List ℕ → ℕ → List (List ℕ) → Type 0
IsOrderLineAt text at after = (starts_line text at ≡ true) × IsFirstOfLines true after (lines_of (drop at text))

-- the order that is read after the line `Order`
abbrev pub order_from : Litmus → Option (ℕ × List (List ℕ)) → Result (List Entry) OrderFault
order_from t (Some start) = entries_in t start.0 0 start.1
order_from t None = Err NoOrder

-- the order of a text
unfoldable pub order_of : Litmus → List ℕ → Result (List Entry) OrderFault
order_of t text = order_from t (order_start 0 (lines_of text))
