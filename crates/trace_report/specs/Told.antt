-- A machine whose choices are told: it runs the test, and was never refused memory, so each choice is the machine's own.
use Rattle.std.specs.Prelude.{◌≡◌, false, List, length}
use Rattle.tso_terms.specs.Litmus.{Litmus}
use Rattle.multiprocessor.specs.Configuration.{Configuration}
use Rattle.machine_core.specs.Running.{Running, configuration_of}
use Rattle.trace_report.specs.Known.{AreStoresKnown}
use Rattle.trace_report.specs.Steps.{states_of}
use Rattle.trace_report.specs.declared.states.PlacedState.{PlacedState}

-- the machine runs this test, is configured so, was never refused memory, and has the test's cores, each pending store of which
-- is at one of the test's locations
pub record IsTraced (t : Litmus) (c : Configuration) (m : Running) : Type 0 where
  pub test : m.test ≡ t
  pub config : configuration_of m ≡ c
  pub whole : m.failed ≡ false
  pub cores : length m.state.flat.cores ≡ length t.programs
  pub stores : AreStoresKnown t m.state.flat

-- the same, and its lines are in these states
pub record IsTracedInStates (t : Litmus) (c : Configuration) (m : Running) (states : List PlacedState) : Type 0 where
  pub machine : IsTraced t c m
  pub states_are : states ≡ states_of m
