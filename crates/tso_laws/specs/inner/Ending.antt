-- States at which nothing is left to do, and how far they are: by the number of choices that lead there.
use Rattle.std.specs.Prelude.{ℕ, ◌≡◌, ◌⊎◌, zero, suc, length}
use Rattle.tso_terms.specs.Litmus.{Litmus}
use Rattle.tso_terms.specs.FlatMachine.{State, after_choice}
use Rattle.tso_terms.specs.declared.choice.Choice.{Choice}

-- no choice changes the state
abbrev pub IsDead : ℕ → Litmus → State → Type 0
IsDead depth t state = (c : Choice) → after_choice t depth state c ≡ state

-- at most so many choices lead from the one state to the other
abbrev pub Reaches : ℕ → Litmus → ℕ → State → State → Type 0
Reaches depth t zero state last = state ≡ last
Reaches depth t (suc n) state last =
    Reaches depth t n state last ⊎ ((c : Choice) × Reaches depth t n (after_choice t depth state c) last)

-- the state has a word for each location and a state for each core
pub record IsSized (t : Litmus) (state : State) : Type 0 where
  pub words : length state.memory ≡ length t.locations
  pub cores : length state.cores ≡ length t.programs
