-- The condition, as it is read: by recursion on its units, of which only so many may be open at once; so the reading comes
-- to an end.
use Rattle.std.specs.Prelude.{ℕ, zero, suc, ◌+◌, Bool, true, false, List, length, codes, Option, Some, None, Result, Ok, Err, nat_lt}
use Rattle.std.specs.Prelude.{is_some, ◌||◌, if◌then◌else◌}
use Rattle.litmus_reader.specs.Vocabulary.{And, AndClaim, BadCondition, Claim, CloseRound, Condition, Exists, Fault, fault, Forall}
use Rattle.litmus_reader.specs.Vocabulary.{LocClaim, most_atoms, most_open, NotClaim, NotExists, OpenRound, Or, OrClaim, Piece, Quantifier}
use Rattle.litmus_reader.specs.Vocabulary.{RegClaim, Stop, Symbol, symbol_at, there, Tilde, TooLarge, TruthClaim, word_at, ◌>>=◌}
use Rattle.litmus_reader.specs.Faults.{or_unfit}
use Rattle.litmus_reader.specs.Keywords.{word_after}
use Rattle.litmus_tokens.specs.Locations.{located}
use Rattle.litmus_reader.specs.Settings.{setting_at, core_of}
use Rattle.litmus_reader.specs.Places.{remaining_of, part_of}
use Rattle.litmus_reader.specs.Written.{Setting, of_register, of_location}

-- the claim of a setting, and the names with its location's
unfoldable pub claim_in : ℕ → ℕ → List (List ℕ) → Setting → Result (Claim × List (List ℕ)) Fault
claim_in cores remaining names (of_register digits reg v) = do
  core ← core_of cores remaining digits
  value ← word_at remaining v
  Ok (RegClaim core reg value, names)
claim_in cores remaining names (of_location x v) = do
  value ← word_at remaining v
  loc ← located remaining names x
  Ok (LocClaim loc.0.0 value, loc.1)

-- what has been read of a proposition: the claim, how many atoms there are so far, the names of locations, and what
-- comes after the claim
pub record Claimed : Type 0 where
  pub claim : Claim
  pub atoms : ℕ
  pub names : List (List ℕ)
  pub rest : List Piece

-- how many atoms there are with one more; one too many is refused at `remaining`
abbrev pub one_more : ℕ → ℕ → Result ℕ Fault
one_more remaining atoms = if nat_lt atoms most_atoms then Ok (atoms + 1) else Err (fault TooLarge remaining)

-- `true` or `false`
unfoldable pub truth_at : List Piece → Option (Bool × List Piece)
truth_at ps =
    there (word_after (codes "true") ps) (λ rest. Some (true, rest))
    (there (word_after (codes "false") ps) (λ rest. Some (false, rest)) None)

-- an atom of a register or a location, after so many others
unfoldable pub setting_atom : Stop → ℕ → ℕ → List (List ℕ) → List Piece → Result Claimed Fault
setting_atom stop cores atoms names ps = do
  setting ← setting_at (part_of BadCondition stop) ps
  claim ← claim_in cores (remaining_of ps) names setting.0
  n ← one_more (remaining_of ps) atoms
  Ok (record { claim = claim.0; atoms = n; names = claim.1; rest = setting.1 })

-- an atom after so many others
unfoldable pub atom_at : Stop → ℕ → ℕ → List (List ℕ) → List Piece → Result Claimed Fault
atom_at stop cores atoms names ps =
    there (truth_at ps)
    (λ t. one_more (remaining_of ps) atoms >>= λ n. Ok (record { claim = TruthClaim t.0; atoms = n; names = names; rest = t.1 }))
    (setting_atom stop cores atoms names ps)

-- a reading of a proposition, after so many atoms and with these names
abbrev pub Proposition : Type 0
Proposition = ℕ → List (List ℕ) → List Piece → Result Claimed Fault

-- what `unit` reads after each `symbol`, joined from the left to what has been read; at most n of them
unfoldable pub chain : Symbol → (Claim → Claim → Claim) → Proposition → ℕ → Claimed → Result Claimed Fault
chain symbol join unit zero c = Ok c
chain symbol join unit (suc n) c =
    there (symbol_at symbol c.rest)
    (λ rest. unit c.atoms c.names rest >>= λ right. chain symbol join unit n (record right { claim = join c.claim right.claim }))
    (Ok c)

-- units with `symbol` between them, joined from the left; each takes a token or more
unfoldable pub chain_of : Symbol → (Claim → Claim → Claim) → Proposition → Proposition
chain_of symbol join unit atoms names ps = do
  first ← unit atoms names ps
  chain symbol join unit (length first.rest) first

-- units joined by `/\`, and these by `\/`
abbrev pub disjunction : Proposition → Proposition
disjunction unit = chain_of Or OrClaim (chain_of And AndClaim unit)

-- what comes after a `~` or a `not`
unfoldable pub negation_at : List Piece → Option (List Piece)
negation_at ps = there (symbol_at Tilde ps) (λ rest. Some rest) (word_after (codes "not") ps)

-- whether a negation or a bracket begins here
unfoldable pub opens_unit : List Piece → Bool
opens_unit ps = is_some (negation_at ps) || is_some (symbol_at OpenRound ps)

-- the proposition after a `(`, and its `)`
abbrev pub bracketed : Stop → Proposition → ℕ → List (List ℕ) → List Piece → Result Claimed Fault
bracketed stop inner atoms names ps = do
  c ← disjunction inner atoms names ps
  rest ← or_unfit (part_of BadCondition stop) c.rest (symbol_at CloseRound c.rest)
  Ok (record c { rest = rest })

-- a unit whose own units are read by `inner`
unfoldable pub unit_by : Stop → ℕ → Proposition → Proposition
unit_by stop cores inner atoms names ps =
    there (negation_at ps) (λ rest. inner atoms names rest >>= λ c. Ok (record c { claim = NotClaim c.claim }))
    (there (symbol_at OpenRound ps) (bracketed stop inner atoms names)
    (atom_at stop cores atoms names ps))

-- a unit, in which n more negations and brackets may be open at once
unfoldable pub unit_at : Stop → ℕ → ℕ → Proposition
unit_at stop cores zero atoms names ps = if opens_unit ps then Err (fault TooLarge (remaining_of ps)) else atom_at stop cores atoms names ps
unit_at stop cores (suc n) atoms names ps = unit_by stop cores (unit_at stop cores n) atoms names ps

-- what the condition gives, and what comes after it
pub record Conditioned : Type 0 where
  pub condition : Option Condition
  pub names : List (List ℕ)
  pub rest : List Piece

-- the proposition after this quantifier
unfoldable pub quantified : Stop → ℕ → Quantifier → List (List ℕ) → List Piece → Result Conditioned Fault
quantified stop cores quantifier names ps = do
  c ← disjunction (unit_at stop cores most_open) 0 names ps
  Ok (record { condition = Some (record { quantifier = quantifier; claim = c.claim }); names = c.names; rest = c.rest })

-- the condition, if there is one: `exists`, `forall` or `~exists`, and a proposition
unfoldable pub condition_at : Stop → ℕ → List (List ℕ) → List Piece → Result Conditioned Fault
condition_at stop cores names ps =
    there (word_after (codes "exists") ps) (quantified stop cores Exists names)
    (there (word_after (codes "forall") ps) (quantified stop cores Forall names)
    (there (symbol_at Tilde ps)
    (λ rest. or_unfit (part_of BadCondition stop) rest (word_after (codes "exists") rest) >>= λ after. quantified stop cores NotExists names after)
    (Ok (record { condition = None; names = names; rest = ps }))))
