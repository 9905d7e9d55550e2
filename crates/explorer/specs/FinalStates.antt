-- What a search answers: final states, each with choices that lead there, and every one that there is, but for registers that
-- nobody looks at. A state that was missed would make a test look safer than it is.
use Rattle.std.specs.Prelude.{ℕ, ◌≡◌, ◌<◌, Bool, List, length, Some, slice_get}
use Rattle.tso_terms.specs.Litmus.{Litmus}
use Rattle.tso_terms.specs.FlatMachine.{State, start}
use Rattle.tso_terms.specs.Runs.{CoresExist}
use Rattle.tso_terms.specs.declared.choice.Choice.{Choice}
use Rattle.tso_laws.specs.Choices.{state_after}
use Rattle.tso_laws.specs.Outcomes.{IsEnd, LeadToEnd, IsAllowedByTso, IsAllowedSequentially}
use Rattle.tso_laws.specs.Dead.{seen}
use Rattle.explorer.specs.declared.final_states.FinalState.{FinalState}

-- the choices of each lead to its registers and its memory
abbrev pub AreReached : Litmus → ℕ → List FinalState → Type 0
AreReached t depth finals =
    (i : ℕ) (f : FinalState) → slice_get finals i ≡ Some f → LeadToEnd t depth f.choices.items f.registers.items f.memory.items

-- one of them has exactly these registers and this memory
abbrev pub AreAmong : List FinalState → List (List ℕ) → List ℕ → Type 0
AreAmong finals registers memory =
    (i : ℕ) × (f : FinalState) × (slice_get finals i ≡ Some f) × (f.registers.items ≡ registers) × (f.memory.items ≡ memory)

-- one of them has this memory and, but for the hidden ones, these registers
pub record Have (hidden : List (List Bool)) (finals : List FinalState) (registers : List (List ℕ)) (memory : List ℕ) : Type 0 where
  pub at : ℕ
  pub final : FinalState
  pub stands : slice_get finals at ≡ Some final
  pub registers_are : seen hidden final.registers.items ≡ seen hidden registers
  pub memory_is : final.memory.items ≡ memory

-- every end of the machine's runs at this depth is one of them
abbrev pub HaveEveryEnd : Litmus → ℕ → List (List Bool) → List FinalState → Type 0
HaveEveryEnd t depth hidden finals =
    (registers : List (List ℕ)) (memory : List ℕ) → IsEnd t depth registers memory → Have hidden finals registers memory

-- each of them is allowed, and each state that is allowed is one of them
pub record AreWhat (Allowed : List (List ℕ) → List ℕ → Type 0) (hidden : List (List Bool)) (finals : List FinalState) : Type 0 where
  pub allowed : (i : ℕ) (f : FinalState) → slice_get finals i ≡ Some f → Allowed f.registers.items f.memory.items
  pub complete : (registers : List (List ℕ)) (memory : List ℕ) → Allowed registers memory → Have hidden finals registers memory

-- they are the final states of the TSO executions of the test
abbrev pub AreWhatTsoAllows : Litmus → List (List Bool) → List FinalState → Type 0
AreWhatTsoAllows t hidden finals = AreWhat (IsAllowedByTso t) hidden finals

-- they are the final states of those that keep all of program order
abbrev pub AreWhatSequentialConsistencyAllows : Litmus → List (List Bool) → List FinalState → Type 0
AreWhatSequentialConsistencyAllows t hidden finals = AreWhat (IsAllowedSequentially t) hidden finals

-- no two have the same memory and, but for the hidden ones, the same registers
abbrev pub AreDistinct : List (List Bool) → List FinalState → Type 0
AreDistinct hidden finals =
    (i j : ℕ) (f g : FinalState) → slice_get finals i ≡ Some f → slice_get finals j ≡ Some g
    → seen hidden f.registers.items ≡ seen hidden g.registers.items → f.memory.items ≡ g.memory.items → i ≡ j

-- choices of the test's cores lead from the beginning to the state
pub record IsReachable (t : Litmus) (depth : ℕ) (state : State) : Type 0 where
  pub choices : List Choice
  pub cores : CoresExist (length t.programs) choices
  pub state_is : state_after t depth (start t) choices ≡ state

-- at this depth the machine can reach more states than so many
pub record HasMoreStates (t : Litmus) (depth limit : ℕ) : Type 0 where
  pub states : List State
  pub reachable : (i : ℕ) (s : State) → slice_get states i ≡ Some s → IsReachable t depth s
  pub distinct : (i j : ℕ) (s : State) → slice_get states i ≡ Some s → slice_get states j ≡ Some s → i ≡ j
  pub more : limit < length states
