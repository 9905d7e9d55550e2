-- Which tokens and bytes spell what comes after the rows: perhaps `locations [..]`, which has no effect, and perhaps a
-- condition, up to the end of the text.
use Rattle.std.specs.Prelude.{◌≡◌, ◌≤◌, ℕ, List, [], ◌∷◌, length, codes, Option, Some, None}
use Rattle.litmus_reader.specs.Vocabulary.{Condition, End, Instructions, most_locations, OpenSquare, Piece, pieces_of, Quantifier, Stop}
use Rattle.litmus_tokens.specs.Terms.{Term, name, symbol}
use Rattle.litmus_reader.specs.Grammar.{terms}
use Rattle.litmus_reader.specs.GrammarConditions.{IsCondition, IsWithin, locations_in, claim_by}
use Rattle.litmus_reader.specs.GrammarText.{ClosesBrackets}
use Rattle.litmus_reader.specs.Places.{from_place}
use Rattle.litmus_reader.specs.Written.{Phrase, WrittenCondition}

-- nothing, or a condition
pub data MayAsk : List Term → Option WrittenCondition → Type 0 where
  nothing : MayAsk [] None
  a_condition : (ts : List Term) (q : Quantifier) (p : Phrase) → IsCondition ts q p
      → MayAsk ts (Some (record { quantifier = q; phrase = p }))

-- what comes after the rows of a text whose tokens are these: up to the end of the text nothing, or a condition
pub data IsEnding (set : Instructions) (text : List ℕ) (stop : Stop) : List Piece → Option WrittenCondition → Type 0 where
  at_once : (ps : List Piece) (c : Option WrittenCondition) → stop ≡ End → MayAsk (terms ps) c
      → IsEnding set text stop ps c
  -- after `locations [..]`; any bytes may be in the brackets, and after them tokens begin anew
  after_locations : (w o : Piece) (ps : List Piece) (bytes : List ℕ) (c : Option WrittenCondition)
      → w.term ≡ name (codes "locations") → o.term ≡ symbol OpenSquare
      → ClosesBrackets (from_place text o.remaining) bytes → (pieces_of set bytes).1 ≡ End
      → MayAsk (terms (pieces_of set bytes).0) c → IsEnding set text stop (w ∷ o ∷ ps) c

-- ---- what it says

-- the names of the locations in their order
abbrev pub names_asked : Option WrittenCondition → List (List ℕ)
names_asked None = []
names_asked (Some c) = locations_in c.phrase

-- the condition, where these are the names of the locations by their numbers
abbrev pub condition_of : List (List ℕ) → Option WrittenCondition → Option Condition
condition_of xs None = None
condition_of xs (Some c) = Some (record { quantifier = c.quantifier; claim = claim_by xs c.phrase })

-- after what named these locations, it is within the limits of a test with so many cores
abbrev pub IsAskedWithin : ℕ → List (List ℕ) → Option WrittenCondition → Type 0
IsAskedWithin cores names None = length names ≤ most_locations
IsAskedWithin cores names (Some c) = IsWithin cores 0 names c.phrase
