-- What the search keeps, as a contract above it may say: choices lead from state to state, and none of them stalls.
use Rattle.std.specs.Prelude.{ℕ, ◌≡◌, ◌<◌, Bool, List, [], ◌∷◌, length}
use Rattle.tso_terms.specs.Litmus.{Litmus}
use Rattle.tso_terms.specs.FlatMachine.{State, after_choice, effect_of, chosen}
use Rattle.tso_terms.specs.Runs.{stall_count}
use Rattle.tso_terms.specs.declared.choice.Choice.{Choice}
use Rattle.tso_laws.specs.Dead.{forgotten}

-- made one after the other, the choices lead from the one state to the other; each is of one of the test's cores and takes effect
abbrev pub LeadsBy : ℕ → Litmus → State → List Choice → State → Type 0
LeadsBy depth t state [] last = state ≡ last
LeadsBy depth t state (c ∷ cs) last =
    (chosen c < length t.programs) × (stall_count (effect_of t depth state c).outcome ≡ 0)
    × LeadsBy depth t (after_choice t depth state c) cs last

-- they lead to a state that is the kept one once its dead registers are forgotten
pub record LeadsToForgotten (depth : ℕ) (t : Litmus) (hidden : List (List Bool)) (state : State) (choices : List Choice) (kept : State) : Type 0 where
  pub last : State
  pub leads : LeadsBy depth t state choices last
  pub kept_is : forgotten t hidden last ≡ kept
