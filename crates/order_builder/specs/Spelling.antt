-- Which text spells which order of a test, and which fault a text has that spells none.
use Rattle.std.specs.Prelude.{ℕ, ◌+◌, ◌<◌, ◌^◌, ◌≡◌, ◌≢◌, true, List, [], ◌∷◌, ◌++◌, length, map, All, codes}
use Rattle.tso_terms.specs.Litmus.{Litmus}
use Rattle.basic_laws.specs.Types.{Entry, Kind, F}
use Rattle.order_builder.specs.Lines.{lines_of, is_line}
use Rattle.tso_terms.specs.Decimals.{decimal_value}
use Rattle.order_builder.specs.Numbers.{is_number}
use Rattle.order_builder.specs.PrintedOrder.{printed_entry, order_lines}
use Rattle.order_builder.specs.declared.fault.OrderFault.{OrderFault}
use Rattle.order_builder.specs.declared.fault.OrderFault.TheVariants.{NoOrder, BadLine, BadCount, NoMemory}

-- a location of the test and a word; a fence has location 0 and value 0
abbrev pub HasAccess : Litmus → Kind → ℕ → ℕ → Type 0
HasAccess t F loc value = (loc ≡ 0) × (value ≡ 0)
HasAccess t _ loc value = (loc < length t.locations) × (value < 2 ^ 32)

-- an entry that an order of the test may have: its core and its place needn't be the test's
pub record IsEntryFor (t : Litmus) (e : Entry) : Type 0 where
  pub core : e.core.0 < 256
  pub place : e.place < 256
  pub access : HasAccess t e.kind e.loc.0 e.value

-- an order of the test, right or wrong
abbrev pub IsOrderFor : Litmus → List Entry → Type 0
IsOrderFor t order = All (IsEntryFor t) order

-- a line before an order
abbrev pub IsNotOrderLine : List ℕ → Type 0
IsNotOrderLine line = line ≢ codes "Order"

-- a line that may be written before an order: also with a carriage return at its end it is not `Order`
pub record IsLineBeforeOrder (line : List ℕ) : Type 0 where
  pub whole : is_line line ≡ true
  pub other : line ≢ codes "Order"
  pub other_returned : line ≢ codes "Order\r"

-- the text spells the order: its lines are those of the order, with any lines after them, and before them lines
-- none of which is `Order`
pub record SpellsOrder (t : Litmus) (text : List ℕ) (order : List Entry) : Type 0 where
  pub before : List (List ℕ)
  pub after : List (List ℕ)
  pub lines : lines_of text ≡ before ++ (order_lines t order ++ after)
  pub first : All IsNotOrderLine before
  pub entries : IsOrderFor t order

-- the lines of the text up to some entries: lines none of which is `Order`, `Order`, the entries, and then the rest
pub record BeginsOrder (t : Litmus) (text : List ℕ) (before : List (List ℕ)) (order : List Entry) (rest : List (List ℕ)) : Type 0 where
  pub lines : lines_of text ≡ before ++ (codes "Order" ∷ (map (printed_entry t) order ++ rest))
  pub first : All IsNotOrderLine before
  pub entries : IsOrderFor t order

-- the line is no entry: none of an order of the test is printed so
abbrev pub IsNoEntry : Litmus → List ℕ → Type 0
IsNoEntry t line = (e : Entry) → IsEntryFor t e → line ≢ printed_entry t e

-- the line is not `Endorder` and a number
abbrev pub IsNoEnd : List ℕ → Type 0
IsNoEnd line = (digits : List ℕ) → is_number digits ≡ true → line ≢ codes "Endorder " ++ digits

-- the line of this number, from 1, is the first after the entries, and is neither an entry nor an end
pub record HasBadLine (t : Litmus) (text : List ℕ) (number : ℕ) : Type 0 where
  pub before : List (List ℕ)
  pub order : List Entry
  pub line : List ℕ
  pub after : List (List ℕ)
  pub begins : BeginsOrder t text before order (line ∷ after)
  pub no_entry : IsNoEntry t line
  pub no_end : IsNoEnd line
  pub numbered : number ≡ length before + length order + 2

-- nothing is after the entries, or an end with another number than that of the entries
abbrev pub HasNoCount : ℕ → List (List ℕ) → Type 0
HasNoCount count [] = Unit {0}
HasNoCount count (line ∷ lines) =
    (digits : List ℕ) × (is_number digits ≡ true) × (line ≡ codes "Endorder " ++ digits) × (decimal_value digits ≢ count)

-- the entries are not followed by their count
pub record HasBadCount (t : Litmus) (text : List ℕ) : Type 0 where
  pub before : List (List ℕ)
  pub order : List Entry
  pub rest : List (List ℕ)
  pub begins : BeginsOrder t text before order rest
  pub no_count : HasNoCount (length order) rest

-- the fault of a text that spells no order; out of memory says nothing of the text
abbrev pub HasFault : Litmus → List ℕ → OrderFault → Type 0
HasFault t text NoOrder = All IsNotOrderLine (lines_of text)
HasFault t text (BadLine number) = HasBadLine t text number
HasFault t text BadCount = HasBadCount t text
HasFault t text NoMemory = ⊥
