-- The condition, as it is read: by recursion on its units, of which only so many may be open at once; so the reading comes
-- to an end.
use Rattle.std.specs.Prelude.{ℕ, List, Option}
use Rattle.litmus_reader.specs.Vocabulary.{And, AndClaim, Claim, Condition, OrClaim, Piece, Stop}
use Rattle.litmus_reader.specs.declared.condition.Joint.{Joint}
use Rattle.litmus_reader.specs.declared.condition.Joint.TheVariants as joints
use Rattle.litmus_reader.specs.Conditions.{Claimed, Conditioned, Proposition, chain_of, disjunction, unit_at}

abbrev pub claimed : Claim → ℕ → List (List ℕ) → List Piece → Claimed
claimed claim atoms names rest = record { claim = claim; atoms = atoms; names = names; rest = rest }

abbrev pub conditioned : Option Condition → List (List ℕ) → List Piece → Conditioned
conditioned condition names rest = record { condition = condition; names = names; rest = rest }

-- two claims with this between them
abbrev pub joined_by : Joint → Claim → Claim → Claim
joined_by joints.And left right = AndClaim left right
joined_by joints.Or left right = OrClaim left right

-- units joined by `/\`
abbrev pub conjunction : Proposition → Proposition
conjunction unit = chain_of And AndClaim unit

-- units joined by `/\`, in which so many negations and brackets may be open at once
abbrev pub conjunction_at : Stop → ℕ → ℕ → Proposition
conjunction_at stop cores opens = conjunction (unit_at stop cores opens)

-- a proposition, in which so many negations and brackets may be open at once
abbrev pub proposition_at : Stop → ℕ → ℕ → Proposition
proposition_at stop cores opens = disjunction (unit_at stop cores opens)
