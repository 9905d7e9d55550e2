-- The tokens of a text, cut off one after the other.
use Rattle.std.specs.Prelude.{List, map}
use Rattle.litmus_tokens.specs.declared.token.Token.{Token}
use Rattle.litmus_tokens.specs.inner.Terms.{term_of}
use Rattle.litmus_tokens.specs.Pieces.{Piece}

abbrev pub piece_of : Token → Piece
piece_of t = record { remaining = t.remaining; term = term_of t.lexeme }

abbrev pub pieces : List Token → List Piece
pieces tokens = map piece_of tokens
