-- The candidate of an order of a test's entries: what its reads returned, the last write that counts for each of them, and
-- the writes to each location as they are in it.
use Rattle.std.specs.Prelude.{ℕ, ◌≡◌, true, List, [], ◌∷◌, ◌++◌, filter, Option, Some, None}
use Rattle.tso_terms.specs.Litmus.{Litmus}
use Rattle.tso_terms.specs.ProgramOrder.{is_read, writes_to}
use Rattle.tso_terms.specs.ProgramEntries.{made}
use Rattle.tso_terms.specs.Axioms.{counting, IsTsoExecution}
use Rattle.tso_terms.specs.FinalState.{final_words, final_registers}
use Rattle.tso_terms.specs.declared.execution.Entry.{Entry}
use Rattle.tso_laws.specs.Outcomes.{IsSequentiallyConsistent}
use Rattle.relational_model.specs.Candidates.{Candidate, events, words_left, registers_left}

abbrev pub last_in : List Entry → Option Entry
last_in [] = None
last_in (x ∷ []) = Some x
last_in (x ∷ (y ∷ ys)) = last_in (y ∷ ys)

pub record IsCandidateOf (t : Litmus) (order : List Entry) (c : Candidate) : Type 0 where
  pub events : events t c ≡ made t order
  pub sources : (front : List Entry) (r : Entry) (back : List Entry) → order ≡ front ++ (r ∷ back) → is_read r ≡ true
      → c.source r ≡ last_in (counting r front back)
  pub coherence : (loc : ℕ) → c.coherence loc ≡ filter (writes_to loc) order

-- both leave the same memory and the same registers
pub record LeaveTheSame (t : Litmus) (order : List Entry) (c : Candidate) : Type 0 where
  pub memory : words_left t c ≡ final_words t order
  pub registers : registers_left t c ≡ final_registers t order

-- the candidate of a TSO execution, which leaves the same memory and the same registers
pub record IsOfAnExecution (t : Litmus) (c : Candidate) : Type 0 where
  pub order : List Entry
  pub execution : IsTsoExecution t order
  pub candidate : IsCandidateOf t order c
  pub state : LeaveTheSame t order c

-- the candidate of a sequentially consistent order, which leaves the same memory and the same registers
pub record IsOfASequentialExecution (t : Litmus) (c : Candidate) : Type 0 where
  pub order : List Entry
  pub consistent : IsSequentiallyConsistent t order
  pub candidate : IsCandidateOf t order c
  pub state : LeaveTheSame t order c
