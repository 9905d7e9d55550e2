-- Tokens of a text without their places: the grammar speaks of what is spelled, and places serve refusals alone.
use Rattle.std.specs.Prelude.{◌≡◌, List, ◌++◌, map}
use Rattle.litmus_reader.specs.Vocabulary.{Piece, Term}

-- tokens, wherever they stand
abbrev pub terms : List Piece → List Term
terms ps = map (λ p. p.term) ps

-- something of this kind is in front of the rest
pub record Passes (Is : List Term → Type 0) (ps rest : List Piece) : Type 0 where
  pub front : List Piece
  pub parts : ps ≡ front ++ rest
  pub is : Is (terms front)
