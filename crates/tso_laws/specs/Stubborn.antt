-- Stubborn sets: choices of which one can be made first, whatever the others are still to do. For each choice of the set, what could
-- meet it can only come after another choice of the set. So a search may leave all choices outside the set for later.
-- (Valmari's stubborn sets; which choices meet is this project's profile.)
use Rattle.std.specs.Prelude.{ℕ, ◌<◌, ◌≤◌, ◌≡◌, ◌≢◌, Bool, true, false, List, [], ◌∷◌, length, Some, slice_get, slice_index_or, ◌⊎◌}
use Rattle.tso_terms.specs.Actions.{action_of}
use Rattle.tso_terms.specs.Litmus.{Litmus}
use Rattle.tso_terms.specs.FlatMachine.{CoreState, State, program_of, core_of}
use Rattle.tso_terms.specs.ProgramOrder.{writes_to}
use Rattle.basic_laws.specs.Types.{Instr, Action, Entry, Choice, Step, Drain}
use Rattle.tso_terms.specs.declared.action.Action.TheVariants.{Store, Load, Move, Fence, Lock}
use Rattle.tso_laws.specs.Eager.{Avoids}

-- a set of choices: of each core whether its step is one, and whether its drain is; of a core of which nothing is said neither is
pub record ChoiceSet : Type 0 where
  pub steps : List Bool
  pub drains : List Bool

abbrev pub has_step : ChoiceSet → ℕ → Bool
has_step set core = slice_index_or set.steps core false

abbrev pub has_drain : ChoiceSet → ℕ → Bool
has_drain set core = slice_index_or set.drains core false

abbrev pub has_choice : ChoiceSet → Choice → Bool
has_choice set (Step core) = has_step set core.0
has_choice set (Drain core) = has_drain set core.0

-- the core has a store to the location pending
abbrev pub HasPending : ℕ → CoreState → Type 0
HasPending loc s = (i : ℕ) × (e : Entry) × (slice_get s.pending i ≡ Some e) × (writes_to loc e ≡ true)

-- nothing that it has pending is at the location
abbrev pub HasNonePending : ℕ → CoreState → Type 0
HasNonePending loc s = (i : ℕ) (e : Entry) → slice_get s.pending i ≡ Some e → e.loc.0 ≢ loc

-- what a core has still to do meets the location not at all, or only after one of its choices that is in the set: after its drain
-- while it has a store to the location pending, and after its step while it has none
pub data IsHeldBack (depth : ℕ) (loads : Bool) (loc : ℕ) (program : List Instr) (s : CoreState) (step_in drain_in : Bool) : Type 0 where
  away : Avoids loads loc program s → IsHeldBack depth loads loc program s step_in drain_in
  by_drain : 0 < depth → HasPending loc s → drain_in ≡ true → IsHeldBack depth loads loc program s step_in drain_in
  by_step : HasNonePending loc s → step_in ≡ true → IsHeldBack depth loads loc program s step_in drain_in

-- that is so of every other core
abbrev pub OthersAreHeldBack : ℕ → Bool → ℕ → Litmus → ChoiceSet → State → ℕ → Type 0
OthersAreHeldBack depth loads loc t set state core =
    (j : ℕ) → j ≢ core → IsHeldBack depth loads loc (program_of t j) (core_of state j) (has_step set j) (has_drain set j)

-- the core's next action is met by none outside the set, or waits for the core's drain, which is in the set
abbrev pub IsApartBy : ℕ → Litmus → ChoiceSet → State → ℕ → Action → Type 0
IsApartBy depth t set state core (Store loc operand) =
    ((depth ≤ length (core_of state core).pending) × (has_drain set core ≡ true))
    ⊎ ((depth ≡ 0) × ((core_of state core).pending ≡ []) × OthersAreHeldBack depth true loc.0 t set state core)
IsApartBy depth t set state core (Load reg loc) = OthersAreHeldBack depth false loc.0 t set state core
IsApartBy depth t set state core (Move change) = ⊥
IsApartBy depth t set state core Fence = has_drain set core ≡ true
IsApartBy depth t set state core (Lock loc reg update) =
    (has_drain set core ≡ true) ⊎ (((core_of state core).pending ≡ []) × OthersAreHeldBack depth true loc.0 t set state core)

pub record IsApartStep (depth : ℕ) (t : Litmus) (set : ChoiceSet) (state : State) (core : ℕ) : Type 0 where
  pub next : Instr
  pub stands : slice_get (program_of t core) (core_of state core).place ≡ Some next
  pub held : IsApartBy depth t set state core (action_of next)

pub record IsApartDrain (depth : ℕ) (t : Litmus) (set : ChoiceSet) (state : State) (core : ℕ) : Type 0 where
  pub oldest : Entry
  pub later : List Entry
  pub pending : (core_of state core).pending ≡ oldest ∷ later
  pub others : OthersAreHeldBack depth true oldest.loc.0 t set state core
  pub buffered : 0 < depth

-- each choice of the set is so, and there is one
pub record IsStubborn (depth : ℕ) (t : Litmus) (set : ChoiceSet) (state : State) : Type 0 where
  pub steps_apart : (core : ℕ) → has_step set core ≡ true → IsApartStep depth t set state core
  pub drains_apart : (core : ℕ) → has_drain set core ≡ true → IsApartDrain depth t set state core
  pub one : (c : Choice) × (has_choice set c ≡ true)
