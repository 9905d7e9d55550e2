-- Where a row ends.
use Rattle.litmus_reader.proofs.Vocabulary.{◌≡◌, ℕ, true, false, ltb, not, List, length, take, Some, None, Ok, Err, refl, sym, ap, ◌∙◌, inl}
use Rattle.litmus_reader.proofs.Vocabulary.{inr, position, position_or_len, length-map, take-map, Semicolon, Stop, Token, Piece, piece_of}
use Rattle.litmus_reader.proofs.Vocabulary.{pieces, is_symbol, Unclosed, row_at, fault, at_stop, remaining_of}
use Rattle.litmus_tokens.proofs.Gaps.{chosen}
use Rattle.litmus_tokens.proofs.Maps.{prefix_len-map}

at-pieces : (tokens : List Token) → position_or_len (is_symbol Semicolon) (pieces tokens) ≡ position_or_len (λ t. is_symbol Semicolon (piece_of t)) tokens
at-pieces tokens = prefix_len-map (λ p. not (is_symbol Semicolon p)) piece_of tokens

pub row_open : (stop : Stop) (tokens : List Token)
    → None ≡ position (λ t. is_symbol Semicolon (piece_of t)) tokens
    → row_at stop (pieces tokens) ≡ Err (at_stop (fault Unclosed (remaining_of (pieces tokens))) stop)
unfolding row_at
row_open stop tokens at =
    elim (chosen (ltb (position_or_len (λ t. is_symbol Semicolon (piece_of t)) tokens) (length tokens))
    (Some (position_or_len (λ t. is_symbol Semicolon (piece_of t)) tokens)) None None (sym at)) [
      | inl hit ↦ absurd cc
      | inr miss ↦
          let no : ltb (position_or_len (is_symbol Semicolon) (pieces tokens)) (length (pieces tokens)) ≡ false =
          rw (at-pieces tokens, length-map tokens piece_of) miss.0 in
          rw no refl
    ]

pub row_closed : (stop : Stop) (tokens : List Token) (n : ℕ)
    → Some n ≡ position (λ t. is_symbol Semicolon (piece_of t)) tokens
    → row_at stop (pieces tokens) ≡ Ok (pieces (take n tokens))
unfolding row_at
row_closed stop tokens n at =
    elim (chosen (ltb (position_or_len (λ t. is_symbol Semicolon (piece_of t)) tokens) (length tokens))
    (Some (position_or_len (λ t. is_symbol Semicolon (piece_of t)) tokens)) None (Some n) (sym at)) [
      | inl hit ↦
          let here : position_or_len (λ t. is_symbol Semicolon (piece_of t)) tokens ≡ n = cc in
          let there : ltb (position_or_len (is_symbol Semicolon) (pieces tokens)) (length (pieces tokens)) ≡ true =
          rw (at-pieces tokens, length-map tokens piece_of) hit.0 in
          rw there (ap (λ (l : List Piece). Ok l) (ap (λ (k : ℕ). take k (pieces tokens)) (at-pieces tokens ∙ here) ∙ take-map piece_of n tokens))
      | inr miss ↦ absurd cc
    ]
