-- Propositions on a final state, and their truth in one state: what a litmus test asks. The quantifier has no part in that
-- truth; it says what is asked of all final states together. (litmus7 and herd, for the form.)
use Rattle.std.specs.Prelude.{ℕ, ◌+◌, ◌<◌, ◌==◌, ◌&&◌, ◌||◌, Bool, not, max, List, [], slice_index, slice_index_or}
use Rattle.tso_terms.specs.Registers.{index_of}
use Rattle.tso_terms.specs.declared.register.Reg.{Reg}
use Rattle.tso_terms.specs.declared.condition.Quantifier.{Quantifier}
use Rattle.tso_terms.specs.declared.condition.Cond.{Cond}
use Rattle.tso_terms.specs.declared.condition.Prop.{Prop, Truth, RegIs, LocIs, Not', And', Or'}

-- a proposition as a tree, whatever memory it lies in
pub data Claim : Type 0 where
  TruthClaim : (truth : Bool) → Claim
  RegClaim : (core : ℕ) → (reg : Reg) → (value : ℕ) → Claim
  LocClaim : (loc : ℕ) → (value : ℕ) → Claim
  NotClaim : (inner : Claim) → Claim
  AndClaim : (left right : Claim) → Claim
  OrClaim : (left right : Claim) → Claim

pub record Condition : Type 0 where
  pub quantifier : Quantifier
  pub claim : Claim

-- the truth of a claim in a list of registers for each core and a list of words
abbrev pub truth_of : List (List ℕ) → List ℕ → Claim → Bool
truth_of registers words (TruthClaim truth) = truth
truth_of registers words (RegClaim core reg value) = slice_index (slice_index_or registers core []) (index_of reg) == value
truth_of registers words (LocClaim loc value) = slice_index words loc == value
truth_of registers words (NotClaim inner) = not (truth_of registers words inner)
truth_of registers words (AndClaim left right) = truth_of registers words left && truth_of registers words right
truth_of registers words (OrClaim left right) = truth_of registers words left || truth_of registers words right

-- each core and each location that the claim names is below these numbers
abbrev pub NamesExist : ℕ → ℕ → Claim → Type 0
NamesExist cores locations (TruthClaim truth) = Unit {0}
NamesExist cores locations (RegClaim core reg value) = core < cores
NamesExist cores locations (LocClaim loc value) = loc < locations
NamesExist cores locations (NotClaim inner) = NamesExist cores locations inner
NamesExist cores locations (AndClaim left right) = NamesExist cores locations left × NamesExist cores locations right
NamesExist cores locations (OrClaim left right) = NamesExist cores locations left × NamesExist cores locations right

-- how many atoms the claim has, `true` and `false` counted
abbrev pub atoms_in : Claim → ℕ
atoms_in (TruthClaim truth) = 1
atoms_in (RegClaim core reg value) = 1
atoms_in (LocClaim loc value) = 1
atoms_in (NotClaim inner) = atoms_in inner
atoms_in (AndClaim left right) = atoms_in left + atoms_in right
atoms_in (OrClaim left right) = atoms_in left + atoms_in right

-- the greatest number of negations on one path from the root
abbrev pub negations_in : Claim → ℕ
negations_in (TruthClaim truth) = 0
negations_in (RegClaim core reg value) = 0
negations_in (LocClaim loc value) = 0
negations_in (NotClaim inner) = negations_in inner + 1
negations_in (AndClaim left right) = max (negations_in left) (negations_in right)
negations_in (OrClaim left right) = max (negations_in left) (negations_in right)

abbrev pub claim_of : Prop → Claim
claim_of (Truth truth) = TruthClaim truth
claim_of (RegIs core reg value) = RegClaim core.0 reg value
claim_of (LocIs loc value) = LocClaim loc.0 value
claim_of (Not' p inner) = NotClaim (claim_of inner)
claim_of (And' p left q right) = AndClaim (claim_of left) (claim_of right)
claim_of (Or' p left q right) = OrClaim (claim_of left) (claim_of right)

abbrev pub condition_of : Cond → Condition
condition_of c = record { quantifier = c.quantifier; claim = claim_of c.prop }
