-- The machine on either bus under a list of choices, each made in its turn, whether the test has ended or not.
use Rattle.std.specs.Prelude.{ℕ, ◌≡◌, List, [], ◌∷◌, ◌++◌}
use Rattle.tso_terms.specs.Litmus.{Litmus}
use Rattle.tso_terms.specs.FlatMachine.{start}
use Rattle.tso_terms.specs.SplitMachine.{Attempt}
use Rattle.tso_terms.specs.EitherBus.{BusState, unheld, effect_on, after_on, HitsFit}
use Rattle.basic_laws.specs.Types.{Bus, Entry}

-- the state after these choices
abbrev pub state_on : Bus → Litmus → ℕ → BusState → List Attempt → BusState
state_on bus t depth state [] = state
state_on bus t depth state (a ∷ rest) = state_on bus t depth (after_on bus t depth state a) rest

-- what they commit, in order
abbrev pub commits_on : Bus → Litmus → ℕ → BusState → List Attempt → List Entry
commits_on bus t depth state [] = []
commits_on bus t depth state (a ∷ rest) =
    (effect_on bus t depth state a).effect.commits ++ commits_on bus t depth (after_on bus t depth state a) rest

-- some choices, made from the first state on with answers that the caches may give, commit these entries and leave this
-- state
pub record IsPossibleOn (bus : Bus) (t : Litmus) (depth : ℕ) (commits : List Entry) (state : BusState) : Type 0 where
  pub attempts : List Attempt
  pub fit : HitsFit bus t depth (unheld (start t)) attempts
  pub commits_are : commits_on bus t depth (unheld (start t)) attempts ≡ commits
  pub state_is : state_on bus t depth (unheld (start t)) attempts ≡ state
