-- Which bytes spell a header line, information lines, and the brackets of `locations [..]`. White space and comments,
-- and that they end, are the lexical layer's.
use Rattle.std.specs.Prelude.{◌≡◌, ℕ, Bool, List, [], ◌∷◌, ◌++◌, codes, None, Ok, IsTrue, IsFalse, ◌==◌, not, ◌-◌, false, length, take}
use Rattle.std.specs.Prelude.{drop, nat_eq, Option, Some, ◌&&◌, ◌||◌, if◌then◌else◌}
use Rattle.std.specs.List.{list_all, prefix_len, suffix_len, starts_with, before_first, after_first}
use Rattle.std.specs.Char.{is_ascii_alphabetic, is_ascii_alphanumeric}
use Rattle.litmus_reader.specs.Vocabulary.{gap_end, is_test_name}

-- after white space and comments stand these bytes
abbrev pub IsAfterGap : List ℕ → List ℕ → Type 0
IsAfterGap bytes at = gap_end None bytes ≡ Ok at

-- ---- the header line

-- the line at the front without its LF, and what comes after it
unfoldable pub first_line : List ℕ → List ℕ × List ℕ
first_line bytes = (before_first (λ b. b == 10) bytes, after_first (λ b. b == 10) bytes)

-- space and tab
abbrev pub is_blank : ℕ → Bool
is_blank b = (b == 32) || (b == 9)

-- what is taken off both ends of a name: space, tab and CR
abbrev pub is_margin : ℕ → Bool
is_margin b = is_blank b || (b == 13)

abbrev pub without_last_margin : List ℕ → List ℕ
without_last_margin bytes = take (length bytes - suffix_len is_margin bytes) bytes

unfoldable pub trimmed : List ℕ → List ℕ
trimmed bytes = without_last_margin (drop (prefix_len is_margin bytes) bytes)

abbrev pub begins_blank : List ℕ → Bool
begins_blank [] = false
begins_blank (b ∷ bs) = is_blank b

-- the name in a header line: after `X86` and at least one space or tab
unfoldable pub name_in : List ℕ → Option (List ℕ)
name_in line = if starts_with nat_eq line (codes "X86") && begins_blank (drop 3 line) then Some (trimmed (drop 3 line)) else None

-- a text that begins with a header line of this name, and what comes after that line
pub record IsHeaderLine (text name after : List ℕ) : Type 0 where
  pub at : List ℕ
  pub gap : IsAfterGap text at
  pub names : name_in (first_line at).0 ≡ Some name
  pub good : IsTrue (is_test_name name)
  pub rest : after ≡ (first_line at).1

-- ---- information lines

-- letters, digits, `_`, `-`, spaces and tabs
unfoldable pub continues_key : ℕ → Bool
continues_key b = is_ascii_alphanumeric b || (b == 95) || (b == 45) || (b == 32) || (b == 9)

-- not a quotation mark
abbrev pub is_quoted : ℕ → Bool
is_quoted b = not (b == 34)

-- bytes that begin with a quotation or a key line, and what comes after it
pub data IsInformation : List ℕ → List ℕ → Type 0 where
  -- `"..."`
  quotation : (inside after : List ℕ) → IsTrue (list_all is_quoted inside)
      → IsInformation (34 ∷ inside ++ 34 ∷ after) after
  -- a letter, then letters, digits, `_`, `-`, spaces and tabs, then `=` and anything to the line's end
  key_line : (b : ℕ) (key bs : List ℕ) → IsTrue (is_ascii_alphabetic b)
      → IsTrue (list_all continues_key key) → IsInformation (b ∷ key ++ 61 ∷ bs) (first_line bs).1

-- bytes that begin with any number of these, and what stands from the `{` after them on
pub data AreInformationLines : List ℕ → List ℕ → Type 0 where
  none : (bytes bs : List ℕ) → IsAfterGap bytes (123 ∷ bs) → AreInformationLines bytes (123 ∷ bs)
  more : (bytes at after braces : List ℕ) → IsAfterGap bytes at → IsInformation at after
      → AreInformationLines after braces → AreInformationLines bytes braces

-- ---- `locations [..]`

-- bytes with a `]` outside comments, and what comes after the first
pub data ClosesBrackets : List ℕ → List ℕ → Type 0 where
  here : (bytes rest : List ℕ) → IsAfterGap bytes (93 ∷ rest) → ClosesBrackets bytes rest
  further : (bytes : List ℕ) (b : ℕ) (bs rest : List ℕ) → IsAfterGap bytes (b ∷ bs)
      → IsFalse (b == 93) → ClosesBrackets bs rest → ClosesBrackets bytes rest
