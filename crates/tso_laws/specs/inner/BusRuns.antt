-- Where runs on either bus stop, and what a stall changes: nothing, not even who holds the bus.
use Rattle.std.specs.Prelude.{ℕ, ◌+◌, ◌<◌, ◌≡◌, true, false, List, [], length, take}
use Rattle.tso_terms.specs.Litmus.{Litmus}
use Rattle.tso_terms.specs.FlatMachine.{start}
use Rattle.tso_terms.specs.Runs.{has_ended, run}
use Rattle.tso_terms.specs.SplitMachine.{Attempt}
use Rattle.tso_terms.specs.EitherBus.{BusState, BusRun, unheld, effect_on, after_on}
use Rattle.tso_terms.specs.declared.choice.Bus.{Bus}
use Rattle.tso_laws.specs.BusChoices.{state_on, commits_on}
use Rattle.tso_laws.specs.BusRuns.{left_by}

-- the choice leaves the state as it is, and commits nothing
pub record ChangesNothingOn (bus : Bus) (t : Litmus) (depth : ℕ) (state : BusState) (a : Attempt) : Type 0 where
  pub same : after_on bus t depth state a ≡ state
  pub none : (effect_on bus t depth state a).effect.commits ≡ []

-- the choices are used one after the other up to the first moment at which the test has ended, and the others are
-- unused; making these too would commit nothing and change nothing
pub record StopsAtTheEndOn (bus : Bus) (t : Litmus) (depth : ℕ) (attempts : List Attempt) (r : BusRun) : Type 0 where
  pub count : r.run.used + r.run.unused ≡ length attempts
  pub ended : r.run.ended ≡ has_ended t r.run.state
  pub first : (n : ℕ) → n < r.run.used → has_ended t (state_on bus t depth (unheld (start t)) (take n attempts)).flat ≡ false
  pub over : 0 < r.run.unused → r.run.ended ≡ true
  pub used_state : left_by r ≡ state_on bus t depth (unheld (start t)) (take r.run.used attempts)
  pub used_commits : r.run.commits ≡ commits_on bus t depth (unheld (start t)) (take r.run.used attempts)
  pub all_state : left_by r ≡ state_on bus t depth (unheld (start t)) attempts
  pub all_commits : r.run.commits ≡ commits_on bus t depth (unheld (start t)) attempts
