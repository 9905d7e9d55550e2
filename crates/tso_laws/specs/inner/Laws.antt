-- What those laws say that the steps of a proof need, and no public promise names.
use Rattle.std.specs.Prelude.{ℕ, ◌≡◌, List, [], ◌++◌, slice_get, Some}
use Rattle.tso_terms.specs.Litmus.{Litmus}
use Rattle.tso_laws.specs.WellFormed.{IsWellFormed}
use Rattle.tso_terms.specs.ProgramEntries.{made}
use Rattle.tso_terms.specs.Axioms.{IsWhole}
use Rattle.tso_terms.specs.Standing.{StandsIn}
use Rattle.tso_terms.specs.FlatMachine.{State, start, effect_of, after_choice}
use Rattle.tso_terms.specs.Runs.{run}
use Rattle.basic_laws.specs.Types.{Entry, Choice, Stall, Stalled}
use Rattle.tso_laws.specs.Choices.{IsPossible}
use Rattle.tso_laws.specs.Entries.{FitsTest}
use Rattle.tso_laws.specs.EndedRuns.{End}
use Rattle.tso_laws.specs.inner.Stopping.{ChangesNothing, StopsAtTheEnd}

-- the first state is one that choices can lead to, each choice leads from one to one, and each run leads to one
pub record ChoicesLeadFromStateToState : Type 0 where
  pub first : (t : Litmus) (depth : ℕ) → IsPossible t depth [] (start t)
  pub next : (t : Litmus) (depth : ℕ) (commits : List Entry) (state : State) (choice : Choice)
      → IsPossible t depth commits state
      → IsPossible t depth (commits ++ (effect_of t depth state choice).commits) (after_choice t depth state choice)
  pub runs : (t : Litmus) (depth : ℕ) (choices : List Choice)
      → IsPossible t depth (run t depth choices).commits (run t depth choices).state

-- each entry of a whole order is made by the programs, is in it once, and fits the test
pub record WholeOrdersHaveEachEntryOnce : Type 0 where
  pub made_by_the_programs : (t : Litmus) (order : List Entry) (e : Entry)
      → IsWhole t order → StandsIn order e → StandsIn (made t order) e
  pub once : (t : Litmus) (order : List Entry) (i j : ℕ) (e : Entry)
      → IsWhole t order → slice_get order i ≡ Some e → slice_get order j ≡ Some e → i ≡ j
  pub fits : (t : Litmus) (order : List Entry) (e : Entry)
      → IsWellFormed t → IsWhole t order → StandsIn order e → FitsTest t e

-- a run stops at the first moment at which the test has ended; no further choice does anything
pub record RunsStopWhereTheyEnd : Type 0 where
  pub stops : (t : Litmus) (depth : ℕ) (choices : List Choice) → StopsAtTheEnd t depth choices (run t depth choices)
  pub nothing_more : (t : Litmus) (depth : ℕ) (choices : List Choice) (choice : Choice)
      → End t depth choices → ChangesNothing t depth (run t depth choices).state choice

abbrev pub StallsChangeNothing : Type 0
StallsChangeNothing =
    (t : Litmus) (depth : ℕ) (state : State) (choice : Choice) (why : Stall)
    → (effect_of t depth state choice).outcome ≡ Stalled why → ChangesNothing t depth state choice
