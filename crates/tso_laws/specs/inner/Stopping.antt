-- Where a run stops: at the first moment at which the test has ended, so choices after that one have no part in it.
use Rattle.std.specs.Prelude.{ℕ, ◌+◌, ◌<◌, ◌≡◌, true, false, List, [], length, take}
use Rattle.tso_terms.specs.Litmus.{Litmus}
use Rattle.tso_terms.specs.FlatMachine.{State, start, effect_of, after_choice}
use Rattle.tso_terms.specs.Runs.{Run, has_ended}
use Rattle.tso_terms.specs.declared.choice.Choice.{Choice}
use Rattle.tso_laws.specs.Choices.{state_after, commits_of}

-- the choice leaves the state as it is, and commits nothing
pub record ChangesNothing (t : Litmus) (depth : ℕ) (state : State) (choice : Choice) : Type 0 where
  pub same : after_choice t depth state choice ≡ state
  pub none : (effect_of t depth state choice).commits ≡ []

-- the choices are used one after the other up to the first moment at which the test has ended, and the others are
-- unused; making these too would commit nothing and change nothing
pub record StopsAtTheEnd (t : Litmus) (depth : ℕ) (choices : List Choice) (r : Run) : Type 0 where
  pub count : r.used + r.unused ≡ length choices
  pub ended : r.ended ≡ has_ended t r.state
  pub first : (n : ℕ) → n < r.used → has_ended t (state_after t depth (start t) (take n choices)) ≡ false
  pub over : 0 < r.unused → r.ended ≡ true
  pub used_state : r.state ≡ state_after t depth (start t) (take r.used choices)
  pub used_commits : r.commits ≡ commits_of t depth (start t) (take r.used choices)
  pub all_state : r.state ≡ state_after t depth (start t) choices
  pub all_commits : r.commits ≡ commits_of t depth (start t) choices
