-- How each part of a text refuses a token that doesn't fit, at its place: how many bytes of the text stand from there on.
use Rattle.std.specs.Prelude.{ℕ, List, [], ◌∷◌, ◌-◌, length, drop}
use Rattle.litmus_reader.specs.Vocabulary.{BadInit, BadToken, Fault, fault, Piece, Stop, Unclosed, Why}
use Rattle.litmus_tokens.specs.declared.token.Stop.TheVariants as stops
use Rattle.litmus_reader.specs.declared.fault.Part.{Part}

-- where the tokens run out: the lexical fault that ended them, or at the end of the text this one
abbrev pub at_stop : Fault → Stop → Fault
at_stop end stops.End = end
at_stop end (stops.BadToken remaining) = fault BadToken remaining
at_stop end (stops.Unclosed remaining) = fault Unclosed remaining

-- the place of the first token, or of the end
abbrev pub remaining_of : List Piece → ℕ
remaining_of [] = 0
remaining_of (p ∷ ps) = p.remaining

-- what a part of the text answers where the token at the front doesn't fit, or where there is none
abbrev pub unfit : Part → List Piece → Fault
unfit part [] = part.missing
unfit part (p ∷ ps) = fault part.why p.remaining

-- in the initial state, whose `{` is at `remaining`
abbrev pub in_initial : ℕ → Stop → Part
in_initial remaining stop = record { why = BadInit; missing = at_stop (fault Unclosed remaining) stop }

-- in any other part, for which the end of the text is at fault as a token is
abbrev pub part_of : Why → Stop → Part
part_of why stop = record { why = why; missing = at_stop (fault why 0) stop }

-- the bytes from the place on from which so many stand
abbrev pub from_place : List ℕ → ℕ → List ℕ
from_place text remaining = drop (length text - remaining) text
