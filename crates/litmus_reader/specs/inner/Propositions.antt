-- Propositions, as they are read one part after the other: what begins a unit, and what is made of what has been read.
use Rattle.std.specs.Prelude.{◌<◌, ℕ, List, length, Option, Some, None, Result, Ok, IfOk}
use denote.Ref.{Bor}
use Rattle.litmus_reader.specs.Vocabulary.{BadCondition, Claim, claim_of, CloseRound, Fault, NotClaim, OpenRound, Piece, pieces, Stop}
use Rattle.litmus_reader.specs.Vocabulary.{symbol_at, there, Token, ◌>>=◌}
use Rattle.tso_terms.specs.declared.condition.Prop.{Prop}
use Rattle.litmus_tokens.specs.declared.fault.ReadError.{ReadError}
use Rattle.litmus_tokens.specs.Faults.{Gives}
use Rattle.litmus_reader.specs.Faults.{or_unfit}
use Rattle.litmus_reader.specs.Places.{part_of}
use Rattle.litmus_reader.specs.Conditions.{Claimed, Proposition, negation_at, unit_at}
use Rattle.litmus_reader.specs.inner.Conditions.{claimed, joined_by, proposition_at}
use Rattle.litmus_reader.specs.declared.condition.Joint.{Joint}
use Rattle.litmus_reader.specs.declared.condition.Opening.{Opening}
use Rattle.litmus_reader.specs.declared.condition.Opening.TheVariants as openings

-- what begins a unit in which others stand, and what comes after it
abbrev pub opening_at : List Piece → Option (Opening × List Piece)
opening_at ps =
    there (negation_at ps) (λ rest. Some (openings.Negation, rest))
    (there (symbol_at OpenRound ps) (λ rest. Some (openings.Bracket, rest)) None)

-- the negation of what has been read
abbrev pub as_negation : Claimed → Result Claimed Fault
as_negation c = Ok (record c { claim = NotClaim c.claim })

-- what has been read after a `(`, with its `)`
abbrev pub closed : Stop → Claimed → Result Claimed Fault
closed stop c = or_unfit (part_of BadCondition stop) c.rest (symbol_at CloseRound c.rest) >>= λ rest. Ok (record c { rest = rest })

-- a unit that begins with this opening, from what comes after it on, in which so many more negations and brackets may be open
abbrev pub opened_at : Opening → Stop → ℕ → ℕ → Proposition
opened_at openings.Negation stop cores opens atoms names ps = unit_at stop cores opens atoms names ps >>= as_negation
opened_at openings.Bracket stop cores opens atoms names ps = proposition_at stop cores opens atoms names ps >>= closed stop

-- a claim and what has been read after it, with this between them
abbrev pub joined_to : Joint → Claim → Claimed → Result Claimed Fault
joined_to joint left right = Ok (record right { claim = joined_by joint left right.claim })

-- Where `reading` gives what was read, with any number of atoms and any names, `reading` and then `next` give the result.
abbrev pub GivesNext : (Claimed → Result Claimed Fault) → Result (Prop × Bor (List Token)) ReadError
    → Result (Prop × Bor (List Token)) ReadError → Type 0
GivesNext next read result =
    (atoms : ℕ) (names : List (List ℕ)) (reading : Result Claimed Fault)
    → Gives (λ x. claimed (claim_of x.0) atoms names (pieces x.1.now)) read reading
    → Gives (λ x. claimed (claim_of x.0) atoms names (pieces x.1.now)) result (reading >>= next)

-- What comes after the result is no longer than what comes after what was read.
abbrev pub IsNoLonger : Result (Prop × Bor (List Token)) ReadError → Result (Prop × Bor (List Token)) ReadError → Type 0
IsNoLonger read result =
    (limit : ℕ) → IfOk read (λ x. length x.1.now < limit) → IfOk result (λ x. length x.1.now < limit)
