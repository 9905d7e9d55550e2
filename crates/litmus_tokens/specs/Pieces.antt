-- The tokens of a text with their places, and why there are no more. A byte that begins no token ends the list, and is a
-- fault only where a reader gets that far.
use Rattle.std.specs.Prelude.{ℕ, zero, suc, List, [], ◌∷◌, length, None, Result, Ok, Err}
use Rattle.litmus_tokens.specs.declared.token.Stop.{Stop}
use Rattle.litmus_tokens.specs.declared.token.Stop.TheVariants.{End}
use Rattle.litmus_tokens.specs.declared.instructions.Instructions.{Instructions}
use Rattle.litmus_tokens.specs.Gap.{gap_end}
use Rattle.litmus_tokens.specs.Terms.{Term, term_at}

-- a token, and how many bytes of the text stand from its first byte on
pub record Piece : Type 0 where
  pub remaining : ℕ
  pub term : Term

infixl 10 ◌>>=◌
abbrev pub ◌>>=◌ : {A B : Type 0} → Result A Stop → (A → Result B Stop) → Result B Stop
(Ok x) >>= f = f x
(Err e) >>= f = Err e

-- the next token after white space and comments, and what comes after it
unfoldable pub piece_at : Instructions → List ℕ → Result (Piece × List ℕ) Stop
piece_at set bytes = do
  rest ← gap_end None bytes
  found ← term_at set rest
  Ok (record { remaining = length rest; term = found.0 }, found.1)

abbrev pub onto : Piece → List Piece × Stop → List Piece × Stop
onto p more = (p ∷ more.0, more.1)

-- at most n tokens
unfoldable pub pieces_within : Instructions → ℕ → List ℕ → List Piece × Stop
pieces_within set zero bytes = ([], End)
pieces_within set (suc n) bytes = elim (piece_at set bytes) [ Ok found ↦ onto found.0 (pieces_within set n found.1) | Err stop ↦ ([], stop) ]

-- all tokens, and why there are no more; a token takes a byte or more
unfoldable pub pieces_of : Instructions → List ℕ → List Piece × Stop
pieces_of set bytes = pieces_within set (length bytes) bytes
