-- What a refutation is held against: the candidates, the executions and the runs of the model that it is of; and that one of these
-- makes a proposition true.
use Rattle.std.specs.Prelude.{ℕ, ◌≡◌, true, List, length}
use Rattle.tso_terms.specs.Limits.{most_depth}
use Rattle.tso_terms.specs.Litmus.{Litmus}
use Rattle.tso_terms.specs.Condition.{Claim, truth_of}
use Rattle.tso_terms.specs.Axioms.{IsTsoExecution}
use Rattle.tso_terms.specs.FinalState.{final_words, final_registers}
use Rattle.tso_terms.specs.FlatMachine.{registers_in}
use Rattle.tso_terms.specs.Runs.{run, CoresExist}
use Rattle.basic_laws.specs.Types.{Choice, Entry}
use Rattle.tso_laws.specs.EndedRuns.{End}
use Rattle.tso_laws.specs.Outcomes.{IsAllowedByTso, IsSequentiallyConsistent, IsAllowedSequentially}
use Rattle.relational_model.specs.Candidates.{Candidate, registers_left, words_left}
use Rattle.relational_model.specs.Model.{IsAllowed}
use Rattle.relational_model.specs.SequentialModel.{IsSequential}
use Rattle.refutation_laws.specs.Refutations.{Node, refutes}
use Rattle.refutation_laws.specs.declared.model.Model.{Model}
use Rattle.refutation_laws.specs.declared.model.Model.TheVariants.{Tso, Sequential}

-- a candidate that the model allows
abbrev pub IsAllowedBy : Model → Litmus → Candidate → Type 0
IsAllowedBy Tso t c = IsAllowed t c
IsAllowedBy Sequential t c = IsSequential t c

-- an execution of the model
abbrev pub IsExecutionOf : Model → Litmus → List Entry → Type 0
IsExecutionOf Tso t order = IsTsoExecution t order
IsExecutionOf Sequential t order = IsSequentiallyConsistent t order

-- the final state of one of them
abbrev pub IsFinalStateOf : Model → Litmus → List (List ℕ) → List ℕ → Type 0
IsFinalStateOf Tso t registers memory = IsAllowedByTso t registers memory
IsFinalStateOf Sequential t registers memory = IsAllowedSequentially t registers memory

-- the depth at which the flat machine's runs are these executions
abbrev pub depth_of : Model → ℕ
depth_of Tso = most_depth
depth_of Sequential = 0

pub record IsRefuted (model : Model) (t : Litmus) (claim : Claim) : Type 0 where
  pub nodes : List Node
  pub refuted : refutes model t claim nodes ≡ true

-- a candidate that the model allows leaves a state in which the proposition is true
pub record HasCandidate (model : Model) (t : Litmus) (claim : Claim) : Type 0 where
  pub candidate : Candidate
  pub allowed : IsAllowedBy model t candidate
  pub holds : truth_of (registers_left t candidate) (words_left t candidate) claim ≡ true

-- this order is an execution of the model, and the proposition is true in its final state
pub record IsMet (model : Model) (t : Litmus) (claim : Claim) (order : List Entry) : Type 0 where
  pub execution : IsExecutionOf model t order
  pub holds : truth_of (final_registers t order) (final_words t order) claim ≡ true

-- in the final state of an execution of the model it is true
pub record HasExecution (model : Model) (t : Litmus) (claim : Claim) : Type 0 where
  pub order : List Entry
  pub execution : IsExecutionOf model t order
  pub holds : truth_of (final_registers t order) (final_words t order) claim ≡ true

-- a run at the model's depth ends the test in a state in which it is true
pub record HasRun (model : Model) (t : Litmus) (claim : Claim) : Type 0 where
  pub choices : List Choice
  pub cores : CoresExist (length t.programs) choices
  pub ended : End t (depth_of model) choices
  pub holds : truth_of (registers_in (run t (depth_of model) choices).state) (run t (depth_of model) choices).state.memory claim ≡ true
