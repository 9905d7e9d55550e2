-- What the laws say that are too long for a line: each is the contract of the function of the same name. (Primer, chapter
-- 4; x86-TSO, section 3.)
use Rattle.std.specs.Prelude.{ℕ, ◌+◌, ◌*◌, ◌<◌, ◌≤◌, ◌≡◌, ◌≢◌, ◌↔◌, List, length, All}
use Rattle.tso_terms.specs.Limits.{most_depth}
use Rattle.tso_terms.specs.Litmus.{Litmus, IsTest}
use Rattle.tso_laws.specs.WellFormed.{IsWellFormed}
use Rattle.tso_terms.specs.Axioms.{IsTsoExecution}
use Rattle.tso_terms.specs.FlatMachine.{State, start}
use Rattle.tso_terms.specs.Runs.{run}
use Rattle.basic_laws.specs.Types.{Entry, Choice}
use Rattle.tso_laws.specs.Choices.{state_after, commits_of, IsPossible}
use Rattle.tso_laws.specs.SoFar.{SoFar}
use Rattle.tso_laws.specs.EndedRuns.{End}
use Rattle.tso_laws.specs.Counting.{instructions, stores_of_all, longest}
use Rattle.tso_laws.specs.Rounds.{CanBeCutIntoRounds}
use Rattle.tso_laws.specs.Depth.{needed}
use Rattle.tso_laws.specs.Along.{choices_along, LeadTo}
use Rattle.tso_laws.specs.Reached.{IsReached}
use Rattle.tso_laws.specs.Words.{HasWord, HoldsWords}

-- in each state that choices lead to, so after each list of choices and in each run, what holds so far
pub record WhatHoldsSoFar : Type 0 where
  pub in_each_state : (t : Litmus) (depth : ℕ) (commits : List Entry) (state : State)
      → IsWellFormed t → IsPossible t depth commits state → SoFar t depth commits state
  pub after_choices : (t : Litmus) (depth : ℕ) (choices : List Choice)
      → IsWellFormed t → SoFar t depth (commits_of t depth (start t) choices) (state_after t depth (start t) choices)
  pub in_runs : (t : Litmus) (depth : ℕ) (choices : List Choice)
      → IsWellFormed t → SoFar t depth (run t depth choices).commits (run t depth choices).state

-- the choices that an ended run used, less those that stalled: one for each instruction, and with store buffers
-- one more for each plain store
pub record RunsAreCounted : Type 0 where
  pub buffered : (t : Litmus) (depth : ℕ) (choices : List Choice) → 0 < depth → End t depth choices
      → (run t depth choices).used ≡ (run t depth choices).stalled + (instructions t.programs + stores_of_all t.programs)
  pub unbuffered : (t : Litmus) (choices : List Choice) → End t 0 choices
      → (run t 0 choices).used ≡ (run t 0 choices).stalled + instructions t.programs

abbrev pub FairRoundsEnd : Type 0
FairRoundsEnd =
    (t : Litmus) (depth : ℕ) (choices : List Choice)
    → CanBeCutIntoRounds (length t.programs) (2 * longest t.programs) choices → End t depth choices

abbrev pub EveryExecutionIsReached : Type 0
EveryExecutionIsReached =
    (t : Litmus) (depth : ℕ) (order : List Entry)
    → IsWellFormed t → IsTsoExecution t order → needed order ≤ depth → LeadTo t depth (choices_along t order) order

-- of the depths of 1 and more: a run needs no more than its own, and so commits no order that needs more
pub record SmallerDepthsNeverReach : Type 0 where
  pub within : (t : Litmus) (depth : ℕ) (choices : List Choice)
      → IsWellFormed t → 0 < depth → needed (run t depth choices).commits ≤ depth
  pub never : (t : Litmus) (depth : ℕ) (order : List Entry) (choices : List Choice)
      → IsWellFormed t → 0 < depth → depth < needed order → (run t depth choices).commits ≢ order

-- at a depth of 1 or more the executions that need no more; at the greatest depth all
pub record RunsReachExactlyTheExecutions : Type 0 where
  pub by_depth : (t : Litmus) (depth : ℕ) (order : List Entry)
      → IsWellFormed t → 0 < depth → IsReached t depth order ↔ (IsTsoExecution t order × (needed order ≤ depth))
  pub at_the_greatest : (t : Litmus) (order : List Entry)
      → IsTest t → IsReached t most_depth order ↔ IsTsoExecution t order

pub record ValuesAreWords : Type 0 where
  pub in_runs : (t : Litmus) (depth : ℕ) (choices : List Choice)
      → IsWellFormed t → HoldsWords (run t depth choices).commits (run t depth choices).state
  pub in_executions : (t : Litmus) (order : List Entry) → IsWellFormed t → IsTsoExecution t order → All HasWord order
