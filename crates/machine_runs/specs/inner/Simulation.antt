-- What drives a machine along choices, and what is known of it after them: state, commits and statistics are those of the
-- run under these choices.
use Rattle.std.specs.Prelude.{ℕ, ◌≡◌, true, false, List, ◌++◌, length}
use Rattle.tso_terms.specs.Litmus.{Litmus}
use Rattle.tso_terms.specs.FlatMachine.{registers_in}
use Rattle.tso_terms.specs.Together.{put_together}
use Rattle.tso_terms.specs.EitherBus.{BusRun, run_on_from, HitsFit}
use Rattle.tso_terms.specs.SplitMachine.{Attempt}
use Rattle.tso_terms.specs.declared.choice.Choice.{Choice}
use Rattle.tso_laws.specs.BusRuns.{left_by}
use Rattle.multiprocessor.specs.Statistics.{statistics_from}
use Rattle.multiprocessor.specs.Answered.{answered_from}
use Rattle.machine_core.specs.Running.{Running}
use Rattle.machine_core.specs.inner.Running.{is_ended}
use Rattle.tso_report.specs.Shown.{ShownRun, shown_run}
use Rattle.machine_runs.specs.Simulation.{verdict}
use Rattle.machine_runs.specs.declared.driving.Ending.{Ending}
use Rattle.machine_runs.specs.declared.driving.Ending.TheVariants.{Ended, Unfinished}

-- the choices with the answers of a machine's caches along them, and the run under them from the machine's state on
abbrev pub answers_of : Running → List Choice → List Attempt
answers_of m choices = answered_from m.bus m.test m.depth m.state m.statistics.caches choices

abbrev pub bus_run_of : Running → List Choice → BusRun
bus_run_of m choices = run_on_from m.bus m.test m.depth m.state (answers_of m choices)

-- the answers are such as caches may give
abbrev pub HaveFittingAnswers : Running → List Choice → Type 0
HaveFittingAnswers m choices = HitsFit m.bus m.test m.depth m.state (answers_of m choices)

-- a machine is driven through these choices, up to the first moment at which the test has ended
pub record Drives (old new : Running) (choices : List Choice) (uses stalls : ℕ) : Type 0 where
  pub test : new.test ≡ old.test
  pub bus : new.bus ≡ old.bus
  pub depth : new.depth ≡ old.depth
  pub failed : new.failed ≡ false
  pub state : new.state ≡ left_by (bus_run_of old choices)
  pub commits : new.commits ≡ old.commits ++ (bus_run_of old choices).run.commits
  pub statistics : new.statistics ≡ statistics_from old.bus old.test old.depth old.state choices old.statistics
  pub used : uses ≡ (bus_run_of old choices).run.used
  pub stalled : stalls ≡ (bus_run_of old choices).run.stalled
  pub answers : HaveFittingAnswers old choices

-- a machine on which the test has ended leaves this, once so many choices were made and so many are left over
pub record IsLeft (t : Litmus) (m : Running) (uses stalls rest : ℕ) (s : ShownRun) : Type 0 where
  pub ended : is_ended m ≡ true
  pub order : s.order ≡ put_together m.commits
  pub registers : s.registers ≡ registers_in m.state.flat
  pub memory : s.memory ≡ m.state.flat.memory
  pub counts : s.counts ≡ m.statistics.counts
  pub cores : length s.registers ≡ length m.test.programs
  pub locations : length s.memory ≡ length m.test.locations
  pub holds : s.holds ≡ verdict t s.registers s.memory
  pub used : s.used ≡ uses
  pub stalled : s.stalled ≡ stalls
  pub unused : s.unused ≡ rest

-- that, or a test that hasn't ended
abbrev pub IsEndingLeftBy : Litmus → Running → ℕ → ℕ → ℕ → Ending → Type 0
IsEndingLeftBy t m uses stalls rest (Ended run) = IsLeft t m uses stalls rest (shown_run run)
IsEndingLeftBy t m uses stalls rest (Unfinished used stalled) = (is_ended m ≡ false) × (used ≡ uses) × (stalled ≡ stalls)
