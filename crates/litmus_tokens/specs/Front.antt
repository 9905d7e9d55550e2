-- Which token is at the front of some tokens, and what comes after it.
use Rattle.std.specs.Prelude.{Bool, false, ℕ, List, [], ◌∷◌, Option, Some, None, if◌then◌else◌}
use Rattle.std.specs.Str.{bytes_eq}
use Rattle.litmus_tokens.specs.declared.token.Symbol.{Symbol}
use Rattle.litmus_tokens.specs.declared.token.Symbol.TheVariants.{Minus}
use Rattle.litmus_tokens.specs.Terms.{Term, symbol, spelling_of, number, hexadecimal, name}
use Rattle.litmus_tokens.specs.Numbers.{hexadecimal_value, negative}
use Rattle.litmus_tokens.specs.Faults.{there}
use Rattle.tso_terms.specs.Decimals.{decimal_value}
use Rattle.litmus_tokens.specs.Pieces.{Piece}

abbrev pub is_symbol_term : Symbol → Term → Bool
is_symbol_term s (symbol t) = bytes_eq (spelling_of s) (spelling_of t)
is_symbol_term s other = false

-- whether the token is this symbol
unfoldable pub is_symbol : Symbol → Piece → Bool
is_symbol s p = is_symbol_term s p.term

-- what comes after this symbol, if it is at the front
unfoldable pub symbol_at : Symbol → List Piece → Option (List Piece)
symbol_at s [] = None
symbol_at s (p ∷ ps) = if is_symbol s p then Some ps else None

abbrev pub name_then : Term → List Piece → Option (List ℕ × List Piece)
name_then (name x) ps = Some (x, ps)
name_then other ps = None

-- the name at the front, and what comes after it
unfoldable pub name_at : List Piece → Option (List ℕ × List Piece)
name_at [] = None
name_at (p ∷ ps) = name_then p.term ps

abbrev pub number_then : Term → List Piece → Option (List ℕ × List Piece)
number_then (number digits) ps = Some (digits, ps)
number_then other ps = None

-- the digits of the number at the front, and what comes after it
unfoldable pub number_at : List Piece → Option (List ℕ × List Piece)
number_at [] = None
number_at (p ∷ ps) = number_then p.term ps

abbrev pub unsigned_then : Term → List Piece → Option (ℕ × List Piece)
unsigned_then (number digits) ps = Some (decimal_value digits, ps)
unsigned_then (hexadecimal digits) ps = Some (hexadecimal_value digits, ps)
unsigned_then other ps = None

-- the number without a sign at the front, of any size, and what stands after it
unfoldable pub unsigned_at : List Piece → Option (ℕ × List Piece)
unsigned_at [] = None
unsigned_at (p ∷ ps) = unsigned_then p.term ps

-- the number at the front, perhaps with a sign
unfoldable pub numeral_at : List Piece → Option (ℕ × List Piece)
numeral_at ps =
    there (unsigned_at ps) (λ found. Some found)
    (there (symbol_at Minus ps) (λ rest. there (unsigned_at rest) (λ found. Some (negative found.0, found.1)) None) None)
