-- The printed text of an order, and of one entry. It is the text that is read again: nothing of an entry is left out of it.
use Rattle.std.specs.Prelude.{ℕ, ◌<◌, ◌^◌, List, [], ◌∷◌, ◌++◌, length, map, slice_index_or, codes}
use Rattle.std.specs.Fmt.{decimal}
use Rattle.tso_terms.specs.Litmus.{Litmus}
use Rattle.basic_laws.specs.Types.{Entry, Kind, R, W, F, LR, LW}

-- the letters that stand for a kind
abbrev pub letters_of : Kind → List ℕ
letters_of R = codes "R"
letters_of W = codes "W"
letters_of F = codes "F"
letters_of LR = codes "LR"
letters_of LW = codes "LW"

-- where and what was read or written, ` x=v`; a fence has none
abbrev pub printed_access : Litmus → Kind → ℕ → ℕ → List ℕ
printed_access t F loc value = []
printed_access t _ loc value = codes " " ++ (slice_index_or t.locations loc [] ++ (codes "=" ++ decimal value))

-- the same of an entry
abbrev pub printed_access_of : Litmus → Entry → List ℕ
printed_access_of t e = printed_access t e.kind e.loc.0 e.value

-- an entry: `Pc:p K x=v`, or `Pc:p F`
abbrev pub printed_entry : Litmus → Entry → List ℕ
printed_entry t e =
    codes "P" ++ (decimal e.core.0 ++ (codes ":" ++ (decimal e.place ++ (codes " " ++ (letters_of e.kind ++ printed_access_of t e)))))

-- the last line, for so many entries
abbrev pub printed_end : ℕ → List ℕ
printed_end count = codes "Endorder " ++ decimal count

-- the lines of an order: `Order`, one for each entry, `Endorder n`
abbrev pub order_lines : Litmus → List Entry → List (List ℕ)
order_lines t order = codes "Order" ∷ (map (printed_entry t) order ++ (printed_end (length order) ∷ []))

-- lines one after the other, with a line feed after each
abbrev pub printed_lines : List (List ℕ) → List ℕ
printed_lines [] = []
printed_lines (line ∷ lines) = line ++ 10 ∷ printed_lines lines

-- the text of an order
abbrev pub printed_order : Litmus → List Entry → List ℕ
printed_order t order = printed_lines (order_lines t order)

-- what is in an entry of this kind in the place of a location: one of the test's, but for a fence
abbrev pub IsLocationFor : Litmus → Kind → ℕ → Type 0
IsLocationFor t F loc = Unit {0}
IsLocationFor t _ loc = loc < length t.locations

-- what an entry needs to be printed
abbrev pub HasLocation : Litmus → Entry → Type 0
HasLocation t e = IsLocationFor t e.kind e.loc.0

-- the value is one that a location can hold
abbrev pub HasWord : Entry → Type 0
HasWord e = e.value < 2 ^ 32
