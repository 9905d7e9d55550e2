-- White space and comments, which separate tokens and are none. A comment that doesn't end hides the rest of the text, so
-- it is a fault.
use Rattle.std.specs.Prelude.{ℕ, Bool, List, [], ◌∷◌, length, Option, Some, None, Result, Ok, Err, ◌==◌, ◌&&◌, ◌||◌, if◌then◌else◌}
use Rattle.litmus_tokens.specs.declared.token.Stop.{Stop}
use Rattle.litmus_tokens.specs.declared.token.Stop.TheVariants.{Unclosed}

-- space, tab, LF and CR
unfoldable pub is_space : ℕ → Bool
is_space b = (b == 32) || (b == 9) || (b == 10) || (b == 13)

-- `(*`
abbrev pub opens_comment : ℕ → ℕ → Bool
opens_comment b c = (b == 40) && (c == 42)

-- `*)`
abbrev pub closes_comment : ℕ → ℕ → Bool
closes_comment b c = (b == 42) && (c == 41)

-- What comes after white space and comments. A comment begins with `(*`, ends with the first `*)` after these two
-- bytes, and has no comments in it. Inside one the number says how many bytes of the text stand from its `(*` on.
unfoldable pub gap_end : Option ℕ → List ℕ → Result (List ℕ) Stop
gap_end None [] = Ok []
gap_end None (b ∷ []) = if is_space b then Ok [] else Ok (b ∷ [])
gap_end None (b ∷ c ∷ bs) =
    if is_space b then gap_end None (c ∷ bs)
    else if opens_comment b c then gap_end (Some (length (b ∷ c ∷ bs))) bs
    else Ok (b ∷ c ∷ bs)
gap_end (Some opener) [] = Err (Unclosed opener)
gap_end (Some opener) (b ∷ []) = Err (Unclosed opener)
gap_end (Some opener) (b ∷ c ∷ bs) = if closes_comment b c then gap_end None bs else gap_end (Some opener) (c ∷ bs)
