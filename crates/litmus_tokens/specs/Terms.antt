-- Single tokens: numbers, names and symbols. A number has any size here: whether it is too great is said where it is used.
use Rattle.std.specs.Prelude.{ℕ, ◌^◌, ◌&&◌, ◌||◌, Bool, false, List, [], ◌∷◌, length, take, drop, Option, Some, None, Result, Ok, Err}
use Rattle.std.specs.Prelude.{nat_lt, nat_eq, codes, ◌==◌, if◌then◌else◌}
use Rattle.std.specs.List.{prefix_len, starts_with}
use Rattle.std.specs.Char.{is_ascii_digit, is_ascii_hexdigit}
use Rattle.tso_terms.specs.Limits.{longest_name}
use Rattle.tso_terms.specs.Names.{begins_name, continues_name}
use Rattle.litmus_tokens.specs.declared.token.Stop.{Stop}
use Rattle.litmus_tokens.specs.declared.token.Stop.TheVariants.{End, BadToken}
use Rattle.litmus_tokens.specs.declared.token.Symbol.{Symbol}
use Rattle.litmus_tokens.specs.declared.instructions.Instructions.{Instructions}
use Rattle.litmus_tokens.specs.declared.instructions.Instructions.TheVariants.{Basic, All}
use Rattle.litmus_tokens.specs.declared.token.Symbol.TheVariants.{Equals, Semicolon, Colon, OpenSquare, CloseSquare, OpenCurly, CloseCurly}
use Rattle.litmus_tokens.specs.declared.token.Symbol.TheVariants.{Bar, Comma, Dollar, Tilde, OpenRound, CloseRound, And, Or, Minus}

-- A token without its place. A number is of any size, and is its digits without leading zeros: equal numbers have equal
-- digits.
pub data Term : Type 0 where
  number : List ℕ → Term
  -- `0x1f`, of the larger set alone: its hexadecimal digits
  hexadecimal : List ℕ → Term
  name : List ℕ → Term
  symbol : Symbol → Term

-- digits without the zeros in front
abbrev pub without_zeros : List ℕ → List ℕ
without_zeros digits = drop (prefix_len (λ d. d == 48) digits) digits

-- the number, if a word has room for it
abbrev pub word_of : ℕ → Option ℕ
word_of n = if nat_lt n (2 ^ 32) then Some n else None

-- how each symbol is spelled; no spelling is the beginning of another
abbrev pub spelling_of : Symbol → List ℕ
spelling_of Equals = codes "="
spelling_of Semicolon = codes ";"
spelling_of Colon = codes ":"
spelling_of OpenSquare = codes "["
spelling_of CloseSquare = codes "]"
spelling_of OpenCurly = codes "{"
spelling_of CloseCurly = codes "}"
spelling_of Bar = codes "|"
spelling_of Comma = codes ","
spelling_of Dollar = codes "$"
spelling_of Tilde = codes "~"
spelling_of OpenRound = codes "("
spelling_of CloseRound = codes ")"
spelling_of And = codes "/\\"
spelling_of Or = codes "\\/"
spelling_of Minus = codes "-"

-- the symbols of both sets
unfoldable pub symbols : List Symbol
symbols = Equals ∷ Semicolon ∷ Colon ∷ OpenSquare ∷ CloseSquare ∷ OpenCurly ∷ CloseCurly ∷ Bar ∷ Comma ∷ Dollar ∷ Tilde
    ∷ OpenRound ∷ CloseRound ∷ And ∷ Or ∷ []

-- the one of these symbols that is spelled at the front, and what comes after it
abbrev pub symbol_among : List Symbol → List ℕ → Option (Symbol × List ℕ)
symbol_among [] bytes = None
symbol_among (s ∷ others) bytes =
    if starts_with nat_eq bytes (spelling_of s) then Some (s, drop (length (spelling_of s)) bytes) else symbol_among others bytes

-- the symbol at the front, and what comes after it
unfoldable pub symbol_of : List ℕ → Option (Symbol × List ℕ)
symbol_of bytes = symbol_among symbols bytes

-- the longest front of bytes that pass, and the rest
abbrev pub run_of : (ℕ → Bool) → List ℕ → List ℕ × List ℕ
run_of p bytes = (take (prefix_len p bytes) bytes, drop (prefix_len p bytes) bytes)

abbrev pub number_term : List ℕ × List ℕ → Result (Term × List ℕ) Stop
number_term run = Ok (number (without_zeros run.0), run.1)

-- `0x` and a hexadecimal digit
abbrev pub begins_hexadecimal : List ℕ → Bool
begins_hexadecimal (z ∷ x ∷ d ∷ ds) = (z == 48) && (((x == 120) || (x == 88)) && is_ascii_hexdigit d)
begins_hexadecimal _ = false

abbrev pub hexadecimal_term : List ℕ × List ℕ → Result (Term × List ℕ) Stop
hexadecimal_term run = Ok (hexadecimal run.0, run.1)

abbrev pub is_hexadecimal : Instructions → List ℕ → Bool
is_hexadecimal Basic bytes = false
is_hexadecimal All bytes = begins_hexadecimal bytes

-- what begins with a digit
abbrev pub numeral_term : Instructions → List ℕ → Result (Term × List ℕ) Stop
numeral_term set bytes =
    if is_hexadecimal set bytes then hexadecimal_term (run_of is_ascii_hexdigit (drop 2 bytes)) else number_term (run_of is_ascii_digit bytes)

-- a sign, which the larger set alone has
abbrev pub is_minus : Instructions → ℕ → Bool
is_minus Basic b = false
is_minus All b = b == 45

-- a name is no longer than a location's may be
abbrev pub name_term : ℕ → List ℕ × List ℕ → Result (Term × List ℕ) Stop
name_term remaining run = if nat_lt longest_name (length run.0) then Err (BadToken remaining) else Ok (name run.0, run.1)

abbrev pub symbol_or_bad : ℕ → Option (Symbol × List ℕ) → Result (Term × List ℕ) Stop
symbol_or_bad remaining (Some found) = Ok (symbol found.0, found.1)
symbol_or_bad remaining None = Err (BadToken remaining)

-- the token at the very front of some bytes, and what comes after it
unfoldable pub term_at : Instructions → List ℕ → Result (Term × List ℕ) Stop
term_at set [] = Err End
term_at set (b ∷ bs) =
    if is_ascii_digit b then numeral_term set (b ∷ bs)
    else if begins_name b then name_term (length (b ∷ bs)) (run_of continues_name (b ∷ bs))
    else if is_minus set b then Ok (symbol Minus, bs)
    else symbol_or_bad (length (b ∷ bs)) (symbol_of (b ∷ bs))
