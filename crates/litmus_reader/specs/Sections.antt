-- Sections of a text: its tokens up to a symbol with which a part of it ends. A section is read as if the text ended after it,
-- so it is read before there are more tokens.
use Rattle.std.specs.Prelude.{List, [], ◌∷◌, if◌then◌else◌}
use Rattle.std.specs.List.{list_any}
use Rattle.litmus_reader.specs.Vocabulary.{End, is_symbol, Piece, Stop, Symbol}

-- some tokens, why there are no more of them, and those that come after them
pub record Section : Type 0 where
  pub tokens : List Piece
  pub stop : Stop
  pub rest : List Piece

-- the tokens up to the first of these symbols; where none of them is there, all tokens
unfoldable pub section_of : List Symbol → Stop → List Piece → Section
section_of ends stop [] = record { tokens = []; stop = stop; rest = [] }
section_of ends stop (p ∷ ps) =
    if list_any (λ s. is_symbol s p) ends then record { tokens = p ∷ []; stop = End; rest = ps }
    else (let s = section_of ends stop ps in record s { tokens = p ∷ s.tokens })
