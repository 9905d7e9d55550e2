-- Sections of a text, and the tokens that it has.
use Rattle.std.specs.Prelude.{◌≡◌, ℕ, Bool, List, [], ◌∷◌, Result}
use Rattle.std.specs.List.{list_any}
use Rattle.litmus_reader.specs.Vocabulary.{BadToken, CloseCurly, Fault, fault, Instructions, is_symbol, Piece, pieces_of, Semicolon, Stop}
use Rattle.litmus_reader.specs.Vocabulary.{Symbol, symbol_at, Why}
use Rattle.litmus_reader.specs.declared.fault.Part.{Part}
use Rattle.litmus_reader.specs.Faults.{or_unfit}
use Rattle.litmus_reader.specs.Places.{at_stop}
use Rattle.litmus_reader.specs.Sections.{Section, section_of}

-- the tokens of a text
abbrev pub tokens_in : Instructions → List ℕ → List Piece
tokens_in set text = (pieces_of set text).0

-- why it has no more
abbrev pub stop_of : Instructions → List ℕ → Stop
stop_of set text = (pieces_of set text).1

abbrev pub section : List Piece → Stop → List Piece → Section
section ps stop rest = record { tokens = ps; stop = stop; rest = rest }

-- a section with a token before it
abbrev pub onto_section : Piece → Section → Section
onto_section p s = section (p ∷ s.tokens) s.stop s.rest

-- whether a token is one of these symbols
abbrev pub is_one_of : List Symbol → Piece → Bool
is_one_of ends p = list_any (λ s. is_symbol s p) ends

-- the symbols with which an item of the initial state ends
abbrev pub item_ends : List Symbol
item_ends = Semicolon ∷ CloseCurly ∷ []

-- the symbol with which a row ends
abbrev pub row_ends : List Symbol
row_ends = Semicolon ∷ []

-- A text begins with the section of these tokens, of which there are no more for this reason.
pub record IsSection (set : Instructions) (ends : List Symbol) (text : List ℕ) (ps : List Piece) (rest : List ℕ) (stop : Stop) : Type 0 where
  pub is : section_of ends (stop_of set text) (tokens_in set text) ≡ section ps stop (tokens_in set rest)
  pub stop_kept : stop_of set text ≡ stop_of set rest

-- before an opening symbol: any other token is a bad one, and this is at fault where the text ends
abbrev pub before_opening : Why → Stop → Part
before_opening why stop = record { why = BadToken; missing = at_stop (fault why 0) stop }

-- the tokens after the symbol with which a text has to begin
abbrev pub opened : Instructions → Symbol → Why → List ℕ → Result (List Piece) Fault
opened set s why text = or_unfit (before_opening why (stop_of set text)) (tokens_in set text) (symbol_at s (tokens_in set text))
