-- Numbers as texts spell them.
use Rattle.std.specs.Prelude.{ℕ, if◌then◌else◌}
use Rattle.tso_terms.specs.Decimals.{decimal_value}
use Rattle.litmus_tokens.specs.Numbers.{hexadecimal_value, negative}
use Rattle.litmus_tokens.specs.declared.numeral.Numeral.{Numeral}

-- what its digits say, without its sign
abbrev pub size_of : Numeral → ℕ
size_of n = if n.is_hexadecimal then hexadecimal_value n.digits.now else decimal_value n.digits.now

abbrev pub numeral_of : Numeral → ℕ
numeral_of n = if n.is_negative then negative (size_of n) else size_of n
