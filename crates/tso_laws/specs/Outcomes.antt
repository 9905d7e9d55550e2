-- The final states of a test: of the machine's runs, and of the TSO executions. That these are the same makes a search of
-- the machine an answer about TSO. (Primer, chapter 4; chapter 3 for runs without store buffers.)
use Rattle.std.specs.Prelude.{ℕ, ◌+◌, ◌≡◌, ◌≤◌, ◌<◌, ◌↔◌, true, List, length}
use Rattle.tso_terms.specs.Limits.{most_depth}
use Rattle.tso_terms.specs.Litmus.{Litmus, IsTest}
use Rattle.tso_laws.specs.WellFormed.{IsWellFormed}
use Rattle.tso_terms.specs.Axioms.{IsTsoExecution}
use Rattle.tso_terms.specs.SequentialConsistency.{KeepsAllOrder}
use Rattle.tso_terms.specs.FinalState.{final_words, final_registers}
use Rattle.tso_terms.specs.FlatMachine.{registers_in}
use Rattle.tso_terms.specs.Runs.{run, CoresExist}
use Rattle.basic_laws.specs.Types.{Choice, Entry}
use Rattle.tso_laws.specs.Counting.{instructions, stores_of_all}
use Rattle.tso_laws.specs.Depth.{needed}
use Rattle.tso_laws.specs.Reached.{IsReached}

-- some choices of the test's cores end the test at this depth with these registers and this memory
pub record IsEnd (t : Litmus) (depth : ℕ) (registers : List (List ℕ)) (memory : List ℕ) : Type 0 where
  pub choices : List Choice
  pub cores : CoresExist (length t.programs) choices
  pub ended : (run t depth choices).ended ≡ true
  pub registers_are : registers_in (run t depth choices).state ≡ registers
  pub memory_is : (run t depth choices).state.memory ≡ memory

-- these choices end it so, and none of them stalls or is left over
pub record LeadToEnd (t : Litmus) (depth : ℕ) (choices : List Choice) (registers : List (List ℕ)) (memory : List ℕ) : Type 0 where
  pub cores : CoresExist (length t.programs) choices
  pub ended : (run t depth choices).ended ≡ true
  pub stalled : (run t depth choices).stalled ≡ 0
  pub unused : (run t depth choices).unused ≡ 0
  pub registers_are : registers_in (run t depth choices).state ≡ registers
  pub memory_is : (run t depth choices).state.memory ≡ memory

-- the registers and the memory are the final state of a TSO execution of the test that needs no more than this depth
pub record IsAllowedAtDepth (t : Litmus) (depth : ℕ) (registers : List (List ℕ)) (memory : List ℕ) : Type 0 where
  pub order : List Entry
  pub execution : IsTsoExecution t order
  pub depth_needed : needed order ≤ depth
  pub registers_are : final_registers t order ≡ registers
  pub memory_is : final_words t order ≡ memory

-- the registers and the memory are the final state of a TSO execution of the test
pub record IsAllowedByTso (t : Litmus) (registers : List (List ℕ)) (memory : List ℕ) : Type 0 where
  pub order : List Entry
  pub execution : IsTsoExecution t order
  pub registers_are : final_registers t order ≡ registers
  pub memory_is : final_words t order ≡ memory

-- a TSO execution of the test that keeps every two entries of program order: what sequential consistency allows
pub record IsSequentiallyConsistent (t : Litmus) (order : List Entry) : Type 0 where
  pub execution : IsTsoExecution t order
  pub keeps : KeepsAllOrder order

-- the registers and the memory are the final state of a sequentially consistent order of the test
pub record IsAllowedSequentially (t : Litmus) (registers : List (List ℕ)) (memory : List ℕ) : Type 0 where
  pub order : List Entry
  pub consistent : IsSequentiallyConsistent t order
  pub registers_are : final_registers t order ≡ registers
  pub memory_is : final_words t order ≡ memory

-- without store buffers, at depth 0, runs end with exactly these orders
abbrev pub UnbufferedRunsReachExactlyTheSequentiallyConsistent : Type 0
UnbufferedRunsReachExactlyTheSequentiallyConsistent =
    (t : Litmus) (order : List Entry) → IsWellFormed t → IsReached t 0 order ↔ IsSequentiallyConsistent t order

-- the ends of the machine's runs are what TSO allows: at a depth of 1 or more of the executions that need no more, at the
-- greatest depth of all, and at depth 0 what sequential consistency allows
pub record EndsAreWhatTsoAllows : Type 0 where
  pub by_depth : (t : Litmus) (depth : ℕ) (registers : List (List ℕ)) (memory : List ℕ)
      → IsWellFormed t → 0 < depth → IsEnd t depth registers memory ↔ IsAllowedAtDepth t depth registers memory
  pub at_the_greatest : (t : Litmus) (registers : List (List ℕ)) (memory : List ℕ)
      → IsTest t → IsEnd t most_depth registers memory ↔ IsAllowedByTso t registers memory
  pub unbuffered : (t : Litmus) (registers : List (List ℕ)) (memory : List ℕ)
      → IsWellFormed t → IsEnd t 0 registers memory ↔ IsAllowedSequentially t registers memory

-- all such choices of a test are as many: one for each instruction, and with store buffers one more for each plain store
pub record ChoicesToAnEndAreCounted : Type 0 where
  pub buffered : (t : Litmus) (depth : ℕ) (choices : List Choice) (registers : List (List ℕ)) (memory : List ℕ)
      → 0 < depth → LeadToEnd t depth choices registers memory → length choices ≡ instructions t.programs + stores_of_all t.programs
  pub unbuffered : (t : Litmus) (choices : List Choice) (registers : List (List ℕ)) (memory : List ℕ)
      → LeadToEnd t 0 choices registers memory → length choices ≡ instructions t.programs
