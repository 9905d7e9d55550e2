-- What the laws of branches say that are too long for a line: each is the contract of the function of the same name.
use Rattle.std.specs.Prelude.{ℕ, ◌<◌, ◌≤◌, ◌≡◌, ◌↔◌, List, length, slice_index}
use Rattle.tso_terms.specs.Limits.{most_depth}
use Rattle.tso_laws.specs.WellFormed.{IsWellFormed}
use Rattle.tso_terms.specs.Axioms.{IsTsoExecution}
use Rattle.basic_laws.specs.Types.{Entry}
use Rattle.tso_laws.specs.Depth.{needed}
use Rattle.tso_laws.specs.Outcomes.{IsAllowedByTso}
use Rattle.branch_laws.specs.Branching.{Branching, Give, values_from, straight, IsBranchExecution, IsPathExecution, IsBranchOutcome, IsPathOutcome}
use Rattle.branch_laws.specs.TreeMachine.{IsTreeReached, IsTreeEnd}
use Rattle.branch_laws.specs.Rounds.{StandsAmong, round, ArePaths, EachPathIsTest, writes_in, AddsNothing, AreEnough}
use Rattle.branch_laws.specs.Shown.{Keeping, shown, with_notes, AllCanShow, AreOwn, Shows, AllSameIfFound}

-- an order is an execution of the branching test exactly where it is one of the straight-line test of its own path; so the
-- executions, and what they leave, are those of all paths together
pub record SplittingIsExact : Type 0 where
  pub own_path : (b : Branching) (order : List Entry) (outputs : List (List ℕ))
      → IsBranchExecution b order outputs
      ↔ (Give b.trees (values_from 0 b.trees order) outputs × IsTsoExecution (straight b (values_from 0 b.trees order)) order)
  pub some_path : (b : Branching) (order : List Entry) (outputs : List (List ℕ))
      → IsBranchExecution b order outputs ↔ ((values : List (List ℕ)) × IsPathExecution b values order outputs)
  pub outcomes : (b : Branching) (outputs : List (List ℕ)) (memory : List ℕ)
      → IsBranchOutcome b outputs memory ↔ ((values : List (List ℕ)) × IsPathOutcome b values outputs memory)

-- runs of the machine over trees end with exactly the executions that need no more depth
abbrev pub TreeRunsReachExactlyTheExecutions : Type 0
TreeRunsReachExactlyTheExecutions =
    (b : Branching) (depth : ℕ) (order : List Entry) (outputs : List (List ℕ))
    → IsWellFormed (straight b (values_from 0 b.trees order)) → 0 < depth
    → IsTreeReached b depth order outputs ↔ (IsBranchExecution b order outputs × (needed order ≤ depth))

-- what runs leave, at the greatest depth, is what the axioms allow
abbrev pub TreeEndsAreTheOutcomes : Type 0
TreeEndsAreTheOutcomes =
    (b : Branching) (outputs : List (List ℕ)) (memory : List ℕ) → EachPathIsTest b → IsTreeEnd b most_depth outputs memory ↔ IsBranchOutcome b outputs memory

-- an execution reads values of the round whose number is that of its writes; a round that adds nothing is the last that does
pub record ReadValuesAreOfRounds : Type 0 where
  pub as_many_as_writes : (b : Branching) (order : List Entry) (outputs : List (List ℕ))
      → IsBranchExecution b order outputs → ArePaths (round b (writes_in order)) b.trees (values_from 0 b.trees order)
  pub last_round : (b : Branching) (n : ℕ) → AddsNothing b n → (m loc v : ℕ) → StandsAmong v (round b m loc) → StandsAmong v (round b n loc)

-- with rounds enough, what a branching test may leave is the union, over finitely many paths, of what their straight-line tests
-- leave with these read values
abbrev pub OutcomesAreTheUnionOfPaths : Type 0
OutcomesAreTheUnionOfPaths =
    (b : Branching) (n : ℕ) (outputs : List (List ℕ)) (memory : List ℕ) → AreEnough b n
    → IsBranchOutcome b outputs memory ↔ ((values : List (List ℕ)) × ArePaths (round b n) b.trees values × IsPathOutcome b values outputs memory)

-- where the keepings serve, what the paths with the same found values leave, with notes, are the final states of one
-- straight-line test that show these values
abbrev pub FinalStatesShowThePath : Type 0
FinalStatesShowThePath =
    (b : Branching) (names values outputs : List (List ℕ)) (keeps : List (List Keeping)) (memory : List ℕ)
    → AllCanShow b.trees values keeps → Give b.trees values outputs → AreOwn b names keeps
    → ((own : List (List ℕ)) × AllSameIfFound keeps values own × IsPathOutcome (with_notes b names keeps) own outputs memory)
    ↔ ((registers : List (List ℕ)) × Shows keeps values registers memory × IsAllowedByTso (shown b names values keeps) registers memory)

-- and notes add nothing: with them and without, a path may leave the same in the locations that it has without them
pub record NotesAddNothing : Type 0 where
  pub noted : (b : Branching) (names values outputs : List (List ℕ)) (keeps : List (List Keeping)) (memory : List ℕ)
      → AreOwn b names keeps → EachPathIsTest b → EachPathIsTest (with_notes b names keeps) → IsPathOutcome b values outputs memory
      → (more : List ℕ) × IsPathOutcome (with_notes b names keeps) values outputs more
      × ((loc : ℕ) → loc < length b.words → slice_index more loc ≡ slice_index memory loc)
  pub unnoted : (b : Branching) (names values outputs : List (List ℕ)) (keeps : List (List Keeping)) (more : List ℕ)
      → AreOwn b names keeps → EachPathIsTest b → EachPathIsTest (with_notes b names keeps) → IsPathOutcome (with_notes b names keeps) values outputs more
      → (memory : List ℕ) × IsPathOutcome b values outputs memory
      × ((loc : ℕ) → loc < length b.words → slice_index memory loc ≡ slice_index more loc)
