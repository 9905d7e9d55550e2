-- The choices that a search makes in a state, as the set of choices that they are.
use Rattle.std.specs.Prelude.{ℕ, ◌<◌, ◌≡◌, true, Some, slice_get}
use Rattle.tso_terms.specs.Actions.{action_of}
use Rattle.tso_terms.specs.Litmus.{Litmus}
use Rattle.tso_terms.specs.FlatMachine.{State, program_of, core_of}
use Rattle.basic_laws.specs.Types.{Action, Instr}
use Rattle.tso_laws.specs.Stubborn.{ChoiceSet, has_step, has_drain, IsApartStep, IsApartDrain}
use Rattle.explorer.specs.declared.stubborn.Picked.{Picked}

abbrev pub set_of : Picked → ChoiceSet
set_of picked = record { steps = picked.steps; drains = picked.drains }

-- the set has every choice of the first so many cores
abbrev pub HasEvery : ChoiceSet → ℕ → Type 0
HasEvery set count = (core : ℕ) → core < count → (has_step set core ≡ true) × (has_drain set core ≡ true)

-- of the first so many cores each choice of the set is as those of stubborn sets are
abbrev pub ArePicksApart : ℕ → Litmus → ChoiceSet → State → ℕ → Type 0
ArePicksApart depth t set state count =
    (core : ℕ) → core < count
    → (has_step set core ≡ true → IsApartStep depth t set state core) × (has_drain set core ≡ true → IsApartDrain depth t set state core)

-- the action is that of the core's next instruction
pub record IsNextAction (t : Litmus) (state : State) (core : ℕ) (action : Action) : Type 0 where
  pub next : Instr
  pub stands : slice_get (program_of t core) (core_of state core).place ≡ Some next
  pub action_is : action_of next ≡ action
