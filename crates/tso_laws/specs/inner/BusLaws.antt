-- What those laws say that the steps of a proof need, and no public promise names.
use Rattle.std.specs.Prelude.{ℕ, ◌≡◌, ◌≢◌, false, List, [], ◌++◌}
use Rattle.tso_terms.specs.Litmus.{Litmus}
use Rattle.tso_laws.specs.WellFormed.{IsWellFormed}
use Rattle.tso_terms.specs.SequentialConsistency.{KeepsAllOrder}
use Rattle.tso_terms.specs.FlatMachine.{State, start, after_choice}
use Rattle.tso_terms.specs.Runs.{run}
use Rattle.tso_terms.specs.MemoryAccess.{NoAccess, access_of}
use Rattle.tso_terms.specs.SplitMachine.{Free, Attempt, same_choice}
use Rattle.tso_terms.specs.EitherBus.{BusState, unheld, effect_on, after_on, run_on, HitFits, HitsFit}
use Rattle.tso_terms.specs.Together.{put_together}
use Rattle.basic_laws.specs.Types.{Bus, Entry, Choice, Stall, Stalled}
use Rattle.tso_laws.specs.BusChoices.{IsPossibleOn}
use Rattle.tso_laws.specs.inner.Pending.{PendingIsOwn}
use Rattle.tso_laws.specs.BusRuns.{EndOn, left_by}
use Rattle.tso_laws.specs.inner.BusRuns.{ChangesNothingOn, StopsAtTheEndOn}

-- the first state is one that choices can lead to, each choice whose answer fits leads from one to one, and each run
-- leads to one
pub record AttemptsLeadFromStateToState : Type 0 where
  pub first : (bus : Bus) (t : Litmus) (depth : ℕ) → IsPossibleOn bus t depth [] (unheld (start t))
  pub next : (bus : Bus) (t : Litmus) (depth : ℕ) (commits : List Entry) (state : BusState) (a : Attempt)
      → IsPossibleOn bus t depth commits state → HitFits t depth state.flat a state.holder
      → IsPossibleOn bus t depth (commits ++ (effect_on bus t depth state a).effect.commits) (after_on bus t depth state a)
  pub runs : (bus : Bus) (t : Litmus) (depth : ℕ) (attempts : List Attempt)
      → HitsFit bus t depth (unheld (start t)) attempts
      → IsPossibleOn bus t depth (run_on bus t depth attempts).run.commits (left_by (run_on bus t depth attempts))

abbrev pub PendingStoresAreOwn : Type 0
PendingStoresAreOwn =
    (bus : Bus) (t : Litmus) (depth : ℕ) (commits : List Entry) (state : BusState)
    → IsPossibleOn bus t depth commits state → PendingIsOwn state.flat

-- a run stops at the first moment at which the test has ended; no further choice does anything, and nobody holds the bus
pub record RunsOnEitherBusStopWhereTheyEnd : Type 0 where
  pub stops : (bus : Bus) (t : Litmus) (depth : ℕ) (attempts : List Attempt)
      → StopsAtTheEndOn bus t depth attempts (run_on bus t depth attempts)
  pub nothing_more : (bus : Bus) (t : Litmus) (depth : ℕ) (attempts : List Attempt) (a : Attempt)
      → EndOn bus t depth attempts → ChangesNothingOn bus t depth (left_by (run_on bus t depth attempts)) a
  pub free : (bus : Bus) (t : Litmus) (depth : ℕ) (attempts : List Attempt)
      → EndOn bus t depth attempts → (run_on bus t depth attempts).holder ≡ Free

abbrev pub StallsOnEitherBusChangeNothing : Type 0
StallsOnEitherBusChangeNothing =
    (bus : Bus) (t : Litmus) (depth : ℕ) (commits : List Entry) (state : BusState) (a : Attempt) (why : Stall)
    → IsPossibleOn bus t depth commits state → (effect_on bus t depth state a).effect.outcome ≡ Stalled why
    → ChangesNothingOn bus t depth state a

abbrev pub NoBufferNoReorderingOnEitherBus : Type 0
NoBufferNoReorderingOnEitherBus =
    (bus : Bus) (t : Litmus) (attempts : List Attempt)
    → IsWellFormed t → HitsFit bus t 0 (unheld (start t)) attempts → EndOn bus t 0 attempts
    → KeepsAllOrder (put_together (run_on bus t 0 attempts).run.commits)

abbrev pub AccessesWait : Type 0
AccessesWait =
    (t : Litmus) (depth : ℕ) (state : State) (a b : Choice)
    → access_of t depth state a ≢ NoAccess → same_choice a b ≡ false
    → access_of t depth (after_choice t depth state b) a ≡ access_of t depth state a
