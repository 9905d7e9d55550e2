-- Information lines, between the header line and the initial state. They are read as bytes, for anything may be in
-- quotation marks.
use Rattle.std.specs.Prelude.{ℕ, zero, suc, Bool, false, List, [], ◌∷◌, length, drop, Option, Some, None, Result, Ok, Err, ◌==◌, if◌then◌else◌}
use Rattle.std.specs.List.{prefix_len}
use Rattle.std.specs.Char.{is_ascii_alphabetic}
use Rattle.litmus_reader.specs.Vocabulary.{BadToken, Fault, fault, gap_end, or_fault, Unclosed, ◌>>=◌}
use Rattle.litmus_reader.specs.Header.{from_gap}
use Rattle.litmus_reader.specs.GrammarText.{first_line, continues_key}

-- what comes after the next quotation mark; no comment is looked for before it
unfoldable pub quotation_end : List ℕ → Option (List ℕ)
quotation_end [] = None
quotation_end (b ∷ bs) = if b == 34 then Some bs else quotation_end bs

-- what comes after a key's `=` and the rest of its line
abbrev pub key_value : ℕ → List ℕ → Result (List ℕ) Fault
key_value remaining [] = Err (fault BadToken remaining)
key_value remaining (b ∷ bs) = if b == 61 then Ok (first_line bs).1 else Err (fault BadToken remaining)

-- what comes after the key line that begins here
abbrev pub key_line_end : List ℕ → Result (List ℕ) Fault
key_line_end bytes = key_value (length bytes) (drop (prefix_len continues_key bytes) bytes)

-- What comes after the quotation or the key line at the front; the text must not end here. A quotation without its end is
-- unclosed at its opener.
unfoldable pub information_end : List ℕ → Result (List ℕ) Fault
information_end [] = Err (fault Unclosed 0)
information_end (b ∷ bs) =
    if b == 34 then or_fault (quotation_end bs) (fault Unclosed (length (b ∷ bs)))
    else if is_ascii_alphabetic b then key_line_end (b ∷ bs)
    else Err (fault BadToken (length (b ∷ bs)))

-- whether the initial state's `{` is at the front
unfoldable pub begins_initial : List ℕ → Bool
begins_initial [] = false
begins_initial (b ∷ bs) = b == 123

-- what stands from the `{` on, after fewer than n information lines
unfoldable pub braces_within : ℕ → List ℕ → Result (List ℕ) Fault
braces_within zero bytes = Err (fault Unclosed 0)
braces_within (suc n) bytes =
    from_gap (gap_end None bytes) >>= λ at.
    if begins_initial at then Ok at else (information_end at >>= λ rest. braces_within n rest)

-- what stands from the `{` of the initial state on; each information line takes a byte or more
unfoldable pub braces_at : List ℕ → Result (List ℕ) Fault
braces_at bytes = braces_within (suc (length bytes)) bytes
