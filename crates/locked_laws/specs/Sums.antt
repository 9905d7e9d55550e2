-- Where only locked additions write to a location, its words add up: the last one is the initial word and all that was added, and
-- what a load part reads is the initial word and all that was added before it. Sums are modulo 2^32, as those of LOCK XADD are.
use Rattle.std.specs.Prelude.{ℕ, ◌+◌, ◌%◌, ◌^◌, ◌≡◌, true, List, [], ◌∷◌, ◌++◌, filter, slice_index}
use Rattle.tso_terms.specs.Litmus.{Litmus}
use Rattle.tso_terms.specs.Thread.{sum_of}
use Rattle.tso_terms.specs.ProgramOrder.{writes_to}
use Rattle.tso_terms.specs.declared.execution.Entry.{Entry}
use Rattle.relational_model.specs.Events.{IsIn}
use Rattle.relational_model.specs.Candidates.{Candidate, events, last_word}
use Rattle.relational_model.specs.Model.{IsAllowed, ArePair}
use Rattle.locked_laws.specs.Turns.{IsLoadPart, IsWrittenByLockedAlone}

-- each write to the location is that of a locked addition, and this is what it adds
pub record IsAddedTo (t : Litmus) (c : Candidate) (loc : ℕ) (addend : Entry → ℕ) : Type 0 where
  pub locked : IsWrittenByLockedAlone t c loc
  pub adds : (r w : Entry) → IsLoadPart t c loc r → IsIn (events t c) w → ArePair r w → w.value ≡ sum_of r.value (addend w)

-- the word after these additions, one after the other
abbrev pub word_after_adding : (Entry → ℕ) → List Entry → ℕ → ℕ
word_after_adding addend [] word = word
word_after_adding addend (w ∷ ws) word = word_after_adding addend ws (sum_of word (addend w))

-- what they add together
abbrev pub total_of : (Entry → ℕ) → List Entry → ℕ
total_of addend [] = 0
total_of addend (w ∷ ws) = addend w + total_of addend ws

-- what a load part reads, where `earlier` are the additions before its own in coherence
pub record ReadsSumSoFar (t : Litmus) (c : Candidate) (loc : ℕ) (addend : Entry → ℕ) (r : Entry) : Type 0 where
  pub earlier : List Entry
  pub own : Entry
  pub later : List Entry
  pub pair : ArePair r own
  pub coherence : c.coherence loc ≡ earlier ++ (own ∷ later)
  pub value : r.value ≡ word_after_adding addend earlier (slice_index t.words loc)

-- ---- the laws

abbrev pub WordsAddUp : Type 0
WordsAddUp =
    (t : Litmus) (c : Candidate) (loc : ℕ) (addend : Entry → ℕ) (w : Entry) → IsAllowed t c → IsAddedTo t c loc addend
    → IsIn (events t c) w → writes_to loc w ≡ true
    → last_word (c.coherence loc) (slice_index t.words loc)
    ≡ (slice_index t.words loc + total_of addend (filter (writes_to loc) (events t c))) % 2 ^ 32

abbrev pub ReadsAddUp : Type 0
ReadsAddUp =
    (t : Litmus) (c : Candidate) (loc : ℕ) (addend : Entry → ℕ) (r : Entry) → IsAllowed t c → IsAddedTo t c loc addend
    → IsLoadPart t c loc r → ReadsSumSoFar t c loc addend r
