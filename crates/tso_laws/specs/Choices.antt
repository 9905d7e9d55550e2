-- The flat machine under a list of choices, each made in its turn, whether the test has ended or not. What holds after any
-- list is proved by going along it; that a run stops where it ends is said apart.
use Rattle.std.specs.Prelude.{ℕ, ◌≡◌, List, [], ◌∷◌, ◌++◌}
use Rattle.tso_terms.specs.Litmus.{Litmus}
use Rattle.tso_terms.specs.FlatMachine.{State, start, effect_of, after_choice}
use Rattle.basic_laws.specs.Types.{Entry, Choice}

-- the state after these choices
abbrev pub state_after : Litmus → ℕ → State → List Choice → State
state_after t depth state [] = state
state_after t depth state (c ∷ cs) = state_after t depth (after_choice t depth state c) cs

-- what they commit, in order
abbrev pub commits_of : Litmus → ℕ → State → List Choice → List Entry
commits_of t depth state [] = []
commits_of t depth state (c ∷ cs) = (effect_of t depth state c).commits ++ commits_of t depth (after_choice t depth state c) cs

-- some choices, made from the first state on, commit these entries and leave this state
pub record IsPossible (t : Litmus) (depth : ℕ) (commits : List Entry) (state : State) : Type 0 where
  pub choices : List Choice
  pub commits_are : commits_of t depth (start t) choices ≡ commits
  pub state_is : state_after t depth (start t) choices ≡ state
