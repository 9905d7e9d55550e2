-- Which tokens spell which number. Only tokens of the larger set have a sign or hexadecimal digits.
use Rattle.std.specs.Prelude.{ℕ, List, [], ◌∷◌}
use Rattle.litmus_reader.specs.Vocabulary.{decimal_value, hexadecimal_value, Minus, negative}
use Rattle.litmus_tokens.specs.Terms.{Term, number, hexadecimal, symbol}

-- a number without a sign
pub data IsUnsigned : Term → ℕ → Type 0 where
  in_decimal : (v : List ℕ) → IsUnsigned (number v) (decimal_value v)
  in_hexadecimal : (v : List ℕ) → IsUnsigned (hexadecimal v) (hexadecimal_value v)

-- a number of any size, as a word has it
pub data IsNumeral : List Term → ℕ → Type 0 where
  unsigned : (t : Term) (v : ℕ) → IsUnsigned t v → IsNumeral (t ∷ []) v
  signed : (t : Term) (v : ℕ) → IsUnsigned t v → IsNumeral (symbol Minus ∷ t ∷ []) (negative v)
