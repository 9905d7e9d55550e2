-- What it is for a candidate to meet facts, and that what they leave possible is so in each allowed candidate that meets them.
use Rattle.std.specs.Prelude.{ℕ, ◌≡◌, ◌≤◌, ◌==◌, ◌&&◌, ◌||◌, Bool, true, false, not, List, [], length, ◌∷◌, Option, Some, slice_get}
use Rattle.std.specs.Prelude.{slice_index, slice_index_or}
use Rattle.tso_terms.specs.Litmus.{Litmus}
use Rattle.tso_terms.specs.Thread.{value_in, registers_with}
use Rattle.tso_terms.specs.Condition.{Claim, TruthClaim, RegClaim, LocClaim, NotClaim, AndClaim, OrClaim, truth_of, NamesExist}
use Rattle.tso_terms.specs.ProgramOrder.{is_read, is_write, writes_to}
use Rattle.basic_laws.specs.Types.{Reg, Entry}
use Rattle.relational_model.specs.Events.{IsIn}
use Rattle.relational_model.specs.Candidates.{Candidate, IsCandidate, events, registers_left, words_left as words_of, last_word}
use Rattle.relational_model.specs.CandidatesOfOrders.{last_in}
use Rattle.relational_model.specs.Relations.{IsBefore}
use Rattle.relational_model.specs.Model.{IsAllowed}
use Rattle.refutation_laws.specs.Known.{bare}
use Rattle.refutation_laws.specs.Agreement.{Stands, IsSameSource}
use Rattle.possible_reads.specs.Expressions.{register_left}
use Rattle.possible_reads.specs.Facts.{Fact, From, Before, Last, Returns, Holds, given_by, cases_of}
use Rattle.possible_reads.specs.Possible.{Values, Reading, can_be, values_of, values_read, least_read, sources_read, values_written, readings_after}
use Rattle.possible_reads.specs.Possible.{last_writes, comes_before, words_left}

-- ---- the end of a candidate, one register and one word at a time

abbrev pub register_in : Litmus → Candidate → ℕ → Reg → ℕ
register_in t c core reg = value_in (registers_with t core (slice_index_or c.reads core [])) reg

abbrev pub word_in : Litmus → Candidate → ℕ → ℕ
word_in t c loc = last_word (c.coherence loc) (slice_index t.words loc)

-- the truth of a proposition there; where its names exist, this is its truth in the state that the candidate leaves
abbrev pub holds_in : Litmus → Candidate → Claim → Bool
holds_in t c (TruthClaim value) = value
holds_in t c (RegClaim core reg value) = register_in t c core reg == value
holds_in t c (LocClaim loc value) = word_in t c loc == value
holds_in t c (NotClaim inner) = not (holds_in t c inner)
holds_in t c (AndClaim left right) = holds_in t c left && holds_in t c right
holds_in t c (OrClaim left right) = holds_in t c left || holds_in t c right

-- ---- facts

-- the candidate meets a fact
abbrev pub IsMet : Litmus → Candidate → Fact → Type 0
IsMet t c (From read write true) = (r : Entry) → Stands t c read r → IsSameSource write (c.source r)
IsMet t c (From read write false) = (r : Entry) → Stands t c read r → IsSameSource write (c.source r) → ⊥
IsMet t c (Before first second) = (w v : Entry) → Stands t c first w → Stands t c second v → IsBefore c w v
IsMet t c (Last write true) = IsSameSource (Some write) (last_in (c.coherence write.loc.0))
IsMet t c (Last write false) = IsSameSource (Some write) (last_in (c.coherence write.loc.0)) → ⊥
IsMet t c (Returns read value truth) = (r : Entry) → Stands t c read r → (r.value == value) ≡ truth
IsMet t c (Holds claim truth) = holds_in t c claim ≡ truth

abbrev pub AreMet : Litmus → Candidate → List Fact → Type 0
AreMet t c [] = Unit {0}
AreMet t c (f ∷ fs) = IsMet t c f × AreMet t c fs

-- one of these lists of facts is met
pub record IsOneMet (t : Litmus) (c : Candidate) (cases : List (List Fact)) : Type 0 where
  pub number : ℕ
  pub facts : List Fact
  pub one : slice_get cases number ≡ Some facts
  pub met : AreMet t c facts

-- ---- what is possible

-- the number is one of these
abbrev pub IsPossible : Values → ℕ → Type 0
IsPossible values number = can_be values (λ v. v == number) ≡ true

-- what r reads from in the candidate is one of these
pub record HasSourceAmong (c : Candidate) (r : Entry) (sources : List (Option Entry)) : Type 0 where
  pub number : ℕ
  pub source : Option Entry
  pub among : slice_get sources number ≡ Some source
  pub same : IsSameSource source (c.source r)

-- x is one of these events
pub record IsOneOf (events : List Entry) (x : Entry) : Type 0 where
  pub number : ℕ
  pub event : Entry
  pub among : slice_get events number ≡ Some event
  pub same : bare event ≡ bare x

pub record ReadIsPossible (t : Litmus) (c : Candidate) (table : List Reading) (read r : Entry) : Type 0 where
  pub source : HasSourceAmong c r (sources_read t table read)
  pub value : IsPossible (values_read table read) r.value
  pub least : least_read table read ≤ r.value

-- a location's last write in coherence, which is one of those that can be it
pub record HasLastWrite (t : Litmus) (c : Candidate) (facts : List Fact) (table : List Reading) (loc : ℕ) : Type 0 where
  pub write : Entry
  pub inside : IsIn (events t c) write
  pub writes : writes_to loc write ≡ true
  pub is_last : last_in (c.coherence loc) ≡ Some write
  pub among : IsOneOf (last_writes t facts table loc) write

-- ---- the laws

abbrev pub ReadingsArePossible : Type 0
ReadingsArePossible =
    (t : Litmus) (c : Candidate) (facts : List Fact) (rounds : ℕ) (read r : Entry) → IsAllowed t c → AreMet t c facts
    → Stands t c read r → is_read r ≡ true → ReadIsPossible t c (readings_after t facts rounds) read r

abbrev pub WrittenValuesArePossible : Type 0
WrittenValuesArePossible =
    (t : Litmus) (c : Candidate) (facts : List Fact) (rounds : ℕ) (write w : Entry) → IsAllowed t c → AreMet t c facts
    → Stands t c write w → is_write w ≡ true → IsPossible (values_written t (readings_after t facts rounds) write) w.value

abbrev pub KnownOrderIsRight : Type 0
KnownOrderIsRight =
    (t : Litmus) (c : Candidate) (facts : List Fact) (rounds : ℕ) (first second w v : Entry) → IsAllowed t c → AreMet t c facts
    → Stands t c first w → Stands t c second v → is_write w ≡ true
    → comes_before t facts (readings_after t facts rounds) first second ≡ true → IsBefore c w v

abbrev pub SomeWriteComesLast : Type 0
SomeWriteComesLast =
    (t : Litmus) (c : Candidate) (facts : List Fact) (rounds loc : ℕ) (w : Entry) → IsAllowed t c → AreMet t c facts
    → IsIn (events t c) w → writes_to loc w ≡ true → HasLastWrite t c facts (readings_after t facts rounds) loc

abbrev pub LastWordsArePossible : Type 0
LastWordsArePossible =
    (t : Litmus) (c : Candidate) (facts : List Fact) (rounds loc : ℕ) → IsAllowed t c → AreMet t c facts
    → IsPossible (words_left t facts (readings_after t facts rounds) loc) (word_in t c loc)

abbrev pub LastRegistersArePossible : Type 0
LastRegistersArePossible =
    (t : Litmus) (c : Candidate) (facts : List Fact) (rounds core : ℕ) (reg : Reg) → IsAllowed t c → AreMet t c facts
    → IsPossible (values_of (values_read (readings_after t facts rounds)) (register_left t core reg)) (register_in t c core reg)

abbrev pub TruthsAreThoseLeft : Type 0
TruthsAreThoseLeft =
    (t : Litmus) (c : Candidate) (claim : Claim) → NamesExist (length t.programs) (length t.words) claim
    → holds_in t c claim ≡ truth_of (registers_left t c) (words_of t c) claim

abbrev pub ClaimsGiveFacts : Type 0
ClaimsGiveFacts =
    (t : Litmus) (c : Candidate) (claim : Claim) (truth : Bool) → IsCandidate t c → holds_in t c claim ≡ truth
    → AreMet t c (given_by t claim truth)

abbrev pub SomeCaseIsMet : Type 0
SomeCaseIsMet =
    (t : Litmus) (c : Candidate) (claim : Claim) (truth : Bool) → IsCandidate t c → holds_in t c claim ≡ truth
    → IsOneMet t c (cases_of t claim truth)
