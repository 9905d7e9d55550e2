-- `c:REG=v`, `x=v` and `[x]=v`, as they are in the initial state and in conditions.
use Rattle.std.specs.Prelude.{ℕ, List, Result, Ok, Err, nat_lt, if◌then◌else◌}
use Rattle.litmus_reader.specs.Vocabulary.{CloseSquare, Colon, decimal_value, Equals, Fault, fault, NoSuchCore, number_at, numeral_at}
use Rattle.litmus_reader.specs.Vocabulary.{OpenSquare, Piece, symbol_at, there, ◌>>=◌}
use Rattle.litmus_tokens.specs.Names.{location_at, register_at}
use Rattle.litmus_reader.specs.declared.fault.Part.{Part}
use Rattle.litmus_reader.specs.Faults.{or_unfit}
use Rattle.litmus_reader.specs.Written.{Setting, of_register, of_location}

-- `=v`
unfoldable pub value_at : Part → List Piece → Result (ℕ × List Piece) Fault
value_at part ps = do
  rest ← or_unfit part ps (symbol_at Equals ps)
  or_unfit part rest (numeral_at rest)

-- `:REG=v`, after its core
unfoldable pub register_setting : Part → List ℕ → List Piece → Result (Setting × List Piece) Fault
register_setting part core ps = do
  rest ← or_unfit part ps (symbol_at Colon ps)
  reg ← or_unfit part rest (register_at rest)
  value ← value_at part reg.1
  Ok (of_register core reg.0 value.0, value.1)

-- `x]=v`, after its `[`
unfoldable pub square_setting : Part → List Piece → Result (Setting × List Piece) Fault
square_setting part ps = do
  x ← or_unfit part ps (location_at ps)
  rest ← or_unfit part x.1 (symbol_at CloseSquare x.1)
  value ← value_at part rest
  Ok (of_location x.0 value.0, value.1)

-- `x=v`
unfoldable pub plain_setting : Part → List Piece → Result (Setting × List Piece) Fault
plain_setting part ps = do
  x ← or_unfit part ps (location_at ps)
  value ← value_at part x.1
  Ok (of_location x.0 value.0, value.1)

-- one of the three, by its first token
unfoldable pub setting_at : Part → List Piece → Result (Setting × List Piece) Fault
setting_at part ps =
    there (number_at ps) (λ core. register_setting part core.0 core.1)
    (there (symbol_at OpenSquare ps) (square_setting part) (plain_setting part ps))

-- a core of the test; any other, of whatever size, is refused
abbrev pub core_of : ℕ → ℕ → List ℕ → Result ℕ Fault
core_of cores remaining digits = if nat_lt (decimal_value digits) cores then Ok (decimal_value digits) else Err (fault NoSuchCore remaining)
