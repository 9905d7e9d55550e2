-- What is taken as given of a candidate on a branch of a refutation: answers to the questions on the way there, and parts of what the
-- test asks.
use Rattle.std.specs.Prelude.{ℕ, Bool, true, false, not, List, [], ◌∷◌, ◌++◌, Option}
use Rattle.tso_terms.specs.Litmus.{Litmus}
use Rattle.tso_terms.specs.Condition.{Claim, RegClaim, NotClaim, AndClaim, OrClaim}
use Rattle.basic_laws.specs.Types.{Entry}
use Rattle.possible_reads.specs.Expressions.{Expression, Returned, register_left}

pub data Fact : Type 0 where
  -- the read reads from this write, none being the initial one; or it doesn't
  From : (read : Entry) → (write : Option Entry) → (truth : Bool) → Fact
  -- of two writes to a location the first comes before the second
  Before : (first second : Entry) → Fact
  -- the write is the last one to its location, or it isn't
  Last : (write : Entry) → (truth : Bool) → Fact
  -- the read returns this value, or another one
  Returns : (read : Entry) → (value : ℕ) → (truth : Bool) → Fact
  -- this part of what is asked is true at the end, or false
  Holds : (claim : Claim) → (truth : Bool) → Fact

-- what it says of a read that a register has this value at the end, or hasn't
abbrev pub value_facts : Expression → ℕ → Bool → List Fact
value_facts (Returned read) value truth = Returns read value truth ∷ []
value_facts _ value truth = []

-- what it gives that a proposition is true, or false
abbrev pub given_by : Litmus → Claim → Bool → List Fact
given_by t (RegClaim core reg value) truth = Holds (RegClaim core reg value) truth ∷ value_facts (register_left t core reg) value truth
given_by t (NotClaim inner) truth = given_by t inner (not truth)
given_by t (AndClaim left right) true = given_by t left true ++ given_by t right true
given_by t (OrClaim left right) false = given_by t left false ++ given_by t right false
given_by t claim truth = Holds claim truth ∷ []

-- the cases in which it is true, or false: each part of a disjunction is one
abbrev pub cases_of : Litmus → Claim → Bool → List (List Fact)
cases_of t (NotClaim inner) truth = cases_of t inner (not truth)
cases_of t (OrClaim left right) true = cases_of t left true ++ cases_of t right true
cases_of t (AndClaim left right) false = cases_of t left false ++ cases_of t right false
cases_of t claim truth = given_by t claim truth ∷ []
