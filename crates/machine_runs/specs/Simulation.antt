-- What a simulation answers: the machine's run, as a report shows it: its order, registers, memory and verdict, and its
-- counts.
use Rattle.std.specs.Prelude.{ℕ, zero, suc, ◌+◌, ◌≡◌, Bool, true, false, List, length, Option}
use Rattle.std.specs.Option.{option_map}
use Rattle.tso_terms.specs.Litmus.{Litmus}
use Rattle.tso_terms.specs.Condition.{truth_of}
use Rattle.tso_terms.specs.SequentialConsistency.{KeepsAllOrder}
use Rattle.tso_terms.specs.FlatMachine.{registers_in}
use Rattle.tso_terms.specs.Runs.{Run}
use Rattle.tso_terms.specs.declared.choice.Choice.{Choice}
use Rattle.tso_laws.specs.Counting.{instructions, stores_of_all}
use Rattle.tso_laws.specs.Rounds.{CanBeCutIntoRounds}
use Rattle.multiprocessor.specs.declared.counts.Counts.{Counts}
use Rattle.tso_report.specs.Shown.{ShownRun, shown_run, IsRunOf}
use Rattle.machine_runs.specs.declared.driving.Ending.{Ending}
use Rattle.machine_runs.specs.declared.driving.Ending.TheVariants.{Ended, Unfinished}

-- the truth of the test's condition in a state, if it has one
abbrev pub verdict : Litmus → List (List ℕ) → List ℕ → Option Bool
verdict t registers words = option_map (λ c. truth_of registers words c.claim) t.condition

-- what is shown of a run, with these counts of its accesses
abbrev pub shown_of : Litmus → List Counts → Run → ShownRun
shown_of t counts r = record {
  order = r.commits;
  registers = registers_in r.state;
  memory = r.state.memory;
  counts = counts;
  holds = verdict t (registers_in r.state) r.state.memory;
  used = r.used;
  stalled = r.stalled;
  unused = r.unused;
}

-- the answer is that of this run of the test, whatever the counts
abbrev pub IsEndingOf : Litmus → Run → Ending → Type 0
IsEndingOf t r (Ended run) = (r.ended ≡ true) × (shown_run run ≡ shown_of t run.left.counts.items r)
IsEndingOf t r (Unfinished used stalled) = (r.ended ≡ false) × (used ≡ r.used) × (stalled ≡ r.stalled)

-- the choices can be cut into so many rounds of the test's cores, in each of which every core has its turn
abbrev pub HasRounds : Litmus → ℕ → List Choice → Type 0
HasRounds t rounds choices = CanBeCutIntoRounds (length t.programs) rounds choices

-- a run that ended gives these counts, core by core
abbrev pub HasCounts : List Counts → Ending → Type 0
HasCounts counts (Ended run) = run.left.counts.items ≡ counts
HasCounts counts (Unfinished used stalled) = Unit {0}

-- a run that ended is one of the test
abbrev pub FitsEnding : Litmus → Ending → Type 0
FitsEnding t (Ended run) = IsRunOf t (shown_run run)
FitsEnding t (Unfinished used stalled) = Unit {0}

-- the drains that it takes to end the test: one for each plain store, and none where no core has a buffer
abbrev pub drains : Litmus → ℕ → ℕ
drains t zero = 0
drains t (suc depth) = stores_of_all t.programs

-- in a run that ended, the choices that didn't stall are as many as all instructions and all drains together
abbrev pub IsCounted : Litmus → ℕ → Ending → Type 0
IsCounted t depth (Ended run) = run.used ≡ run.stalled + (instructions t.programs + drains t depth)
IsCounted t depth (Unfinished used stalled) = Unit {0}

-- the order of a run that ended keeps program order without exception
abbrev pub HasAllOrder : Ending → Type 0
HasAllOrder (Ended run) = KeepsAllOrder run.left.execution.order.items
HasAllOrder (Unfinished used stalled) = Unit {0}

abbrev pub HasEnded : Ending → Type 0
HasEnded (Ended run) = Unit {0}
HasEnded (Unfinished used stalled) = ⊥
