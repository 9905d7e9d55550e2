-- What the laws say that are too long for a line: each is the contract of the function of the same name. (Primer, chapter
-- 7, for the split bus; what asks, waits and acts at once is this project's profile.)
use Rattle.std.specs.Prelude.{ℕ, ◌*◌, ◌≡◌, true, List, length}
use Rattle.tso_terms.specs.Litmus.{Litmus}
use Rattle.tso_laws.specs.WellFormed.{IsWellFormed}
use Rattle.tso_terms.specs.FlatMachine.{start}
use Rattle.tso_terms.specs.Runs.{run, has_ended}
use Rattle.tso_terms.specs.SplitMachine.{Free, Attempt}
use Rattle.tso_terms.specs.EitherBus.{BusState, unheld, run_on, choices_in, HitsFit}
use Rattle.tso_terms.specs.Together.{put_together, together}
use Rattle.basic_laws.specs.Types.{Bus, Atomic, Entry, Choice}
use Rattle.tso_laws.specs.EndedRuns.{IsExecution}
use Rattle.tso_laws.specs.Counting.{instructions}
use Rattle.tso_laws.specs.Rounds.{CanBeCutIntoRounds}
use Rattle.tso_laws.specs.BusChoices.{IsPossibleOn}
use Rattle.tso_laws.specs.BusSoFar.{SoFarOn}
use Rattle.tso_laws.specs.BusRuns.{EndOn, IsFlatRun}

-- what holds so far in each state that choices lead to; where the test has ended nobody holds the bus
pub record WhatHoldsSoFarOnEitherBus : Type 0 where
  pub so_far : (bus : Bus) (t : Litmus) (depth : ℕ) (commits : List Entry) (state : BusState)
      → IsPossibleOn bus t depth commits state → SoFarOn bus t depth commits state
  pub free : (bus : Bus) (t : Litmus) (depth : ℕ) (commits : List Entry) (state : BusState)
      → IsPossibleOn bus t depth commits state → has_ended t state.flat ≡ true → state.holder ≡ Free

abbrev pub EndedRunsOnEitherBusAreExecutions : Type 0
EndedRunsOnEitherBusAreExecutions =
    (bus : Bus) (t : Litmus) (depth : ℕ) (attempts : List Attempt)
    → IsWellFormed t → HitsFit bus t depth (unheld (start t)) attempts → EndOn bus t depth attempts
    → IsExecution t (together (run_on bus t depth attempts).run)

abbrev pub RunsOnEitherBusAreFlatRuns : Type 0
RunsOnEitherBusAreFlatRuns =
    (bus : Bus) (t : Litmus) (depth : ℕ) (attempts : List Attempt)
    → HitsFit bus t depth (unheld (start t)) attempts → IsFlatRun bus t depth attempts (run_on bus t depth attempts)

abbrev pub FairRoundsEndOnEitherBus : Type 0
FairRoundsEndOnEitherBus =
    (bus : Bus) (t : Litmus) (depth : ℕ) (attempts : List Attempt)
    → CanBeCutIntoRounds (length t.programs) (3 * instructions t.programs) (choices_in attempts) → EndOn bus t depth attempts

-- on the atomic bus a run is the flat machine's, nobody holds the bus, and each answer fits; the flat machine commits the
-- parts of a locked instruction together
pub record AtomicRunsAreFlatRuns : Type 0 where
  pub atomic : (t : Litmus) (depth : ℕ) (attempts : List Attempt)
      → (run_on Atomic t depth attempts).run ≡ run t depth (choices_in attempts)
  pub free : (t : Litmus) (depth : ℕ) (attempts : List Attempt) → (run_on Atomic t depth attempts).holder ≡ Free
  pub fit : (t : Litmus) (depth : ℕ) (attempts : List Attempt) → HitsFit Atomic t depth (unheld (start t)) attempts
  pub together : (t : Litmus) (depth : ℕ) (choices : List Choice)
      → put_together (run t depth choices).commits ≡ (run t depth choices).commits
