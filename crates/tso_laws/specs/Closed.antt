-- Lists of states that miss none of the ended ones, but for dead registers and exchanges of cores that are alike: whatever a choice
-- makes of a state of the list is in it again, once eager choices are made, dead registers are forgotten, and such cores exchanged.
use Rattle.std.specs.Prelude.{ℕ, ◌≡◌, ◌<◌, Bool, true, List, [], ◌∷◌, length, Some, slice_get, ◌⊎◌}
use Rattle.tso_terms.specs.Litmus.{Litmus}
use Rattle.tso_laws.specs.WellFormed.{IsWellFormed}
use Rattle.tso_terms.specs.FlatMachine.{State, start, chosen, after_choice}
use Rattle.tso_terms.specs.Runs.{run}
use Rattle.tso_terms.specs.declared.choice.Choice.{Choice}
use Rattle.tso_laws.specs.Eager.{IsEager}
use Rattle.tso_laws.specs.Stubborn.{ChoiceSet, has_choice, IsStubborn}
use Rattle.tso_laws.specs.Dead.{forgotten, AreAlike}
use Rattle.tso_laws.specs.Exchanged.{exchanged_by, AreOf, AreAllAlike}

-- these choices, made one after the other, are each eager, and lead from the one state to the other
abbrev pub LeadsEagerly : ℕ → Litmus → State → List Choice → State → Type 0
LeadsEagerly depth t state [] last = state ≡ last
LeadsEagerly depth t state (e ∷ es) last = IsEager depth t state e × LeadsEagerly depth t (after_choice t depth state e) es last

-- the state is among these
abbrev pub IsAmongStates : List State → State → Type 0
IsAmongStates states state = (i : ℕ) × (slice_get states i ≡ Some state)

-- eager choices lead from the state to one that is among these once its dead registers are forgotten and cores of these pairs exchanged
pub record IsCovered (depth : ℕ) (t : Litmus) (hidden : List (List Bool)) (pairs : List (ℕ × ℕ)) (states : List State) (state : State) : Type 0 where
  pub eager : List Choice
  pub last : State
  pub leads : LeadsEagerly depth t state eager last
  pub exchanges : List (ℕ × ℕ)
  pub of_pairs : AreOf pairs exchanges
  pub among : IsAmongStates states (exchanged_by exchanges (forgotten t hidden last))

-- each choice of the test's cores leads from the state to one that is covered, or stalls
abbrev pub IsExpanded : ℕ → Litmus → List (List Bool) → List (ℕ × ℕ) → List State → State → Type 0
IsExpanded depth t hidden pairs states state =
    (c : Choice) → chosen c < length t.programs
    → (after_choice t depth state c ≡ state) ⊎ IsCovered depth t hidden pairs states (after_choice t depth state c)

-- the first state is covered, and each of the states is expanded
pub record AreClosed (depth : ℕ) (t : Litmus) (hidden : List (List Bool)) (pairs : List (ℕ × ℕ)) (states : List State) : Type 0 where
  pub first : IsCovered depth t hidden pairs states (start t)
  pub each : (state : State) → IsAmongStates states state → IsExpanded depth t hidden pairs states state

-- each choice of a stubborn set leads from the state to one that is covered, or stalls
pub record IsPartlyExpanded (depth : ℕ) (t : Litmus) (hidden : List (List Bool)) (pairs : List (ℕ × ℕ)) (states : List State) (state : State) : Type 0 where
  pub set : ChoiceSet
  pub stubborn : IsStubborn depth t set state
  pub each : (c : Choice) → has_choice set c ≡ true → chosen c < length t.programs
      → (after_choice t depth state c ≡ state) ⊎ IsCovered depth t hidden pairs states (after_choice t depth state c)

-- every choice does so, or each of a stubborn set
abbrev pub IsExpandedEnough : ℕ → Litmus → List (List Bool) → List (ℕ × ℕ) → List State → State → Type 0
IsExpandedEnough depth t hidden pairs states state = IsExpanded depth t hidden pairs states state ⊎ IsPartlyExpanded depth t hidden pairs states state

-- the first state is covered, and each of the states is expanded, or a stubborn set of it
pub record ArePartlyClosed (depth : ℕ) (t : Litmus) (hidden : List (List Bool)) (pairs : List (ℕ × ℕ)) (states : List State) : Type 0 where
  pub first : IsCovered depth t hidden pairs states (start t)
  pub each : (state : State) → IsAmongStates states state → IsExpandedEnough depth t hidden pairs states state

-- one of these differs in dead registers alone from what exchanges make of the state
pub record IsAlikeOneOf (t : Litmus) (hidden : List (List Bool)) (pairs : List (ℕ × ℕ)) (states : List State) (state : State) : Type 0 where
  pub exchanges : List (ℕ × ℕ)
  pub of_pairs : AreOf pairs exchanges
  pub kept : State
  pub among : IsAmongStates states kept
  pub alike : AreAlike t hidden kept (exchanged_by exchanges state)

-- where the pairs are of cores that are alike and the states are closed, every run that ends leaves one of them, but for dead registers
-- and exchanges
abbrev pub ClosedStatesMissNone : Type 0
ClosedStatesMissNone =
    (depth : ℕ) (t : Litmus) (hidden : List (List Bool)) (pairs : List (ℕ × ℕ)) (states : List State) (choices : List Choice)
    → IsWellFormed t → AreAllAlike t hidden pairs → AreClosed depth t hidden pairs states → (run t depth choices).ended ≡ true
    → IsAlikeOneOf t hidden pairs states (run t depth choices).state

-- so it is where of some of the states only a stubborn set is expanded
abbrev pub PartlyClosedStatesMissNone : Type 0
PartlyClosedStatesMissNone =
    (depth : ℕ) (t : Litmus) (hidden : List (List Bool)) (pairs : List (ℕ × ℕ)) (states : List State) (choices : List Choice)
    → IsWellFormed t → AreAllAlike t hidden pairs → ArePartlyClosed depth t hidden pairs states → (run t depth choices).ended ≡ true
    → IsAlikeOneOf t hidden pairs states (run t depth choices).state
