-- The answer of `sweep`: what is counted of the runs under many seeds. Each run is one that `run` makes of `seed N M`.
use Rattle.std.specs.Prelude.{ℕ, zero, suc, ◌+◌, ◌<◌, if◌then◌else◌, List, length}
use Rattle.tso_terms.specs.Litmus.{Litmus}
use Rattle.tso_terms.specs.FlatMachine.{registers_in}
use Rattle.tso_terms.specs.Runs.{Run}
use Rattle.tso_terms.specs.declared.choice.Choice.{Choice}
use Rattle.scheduler.specs.Seeds.{seeded_choices}
use Rattle.protocol_tables.specs.declared.kind.ProtocolKind.{ProtocolKind}
use Rattle.multiprocessor.specs.Configuration.{Configuration}
use Rattle.tso_report.specs.Tally.{RunCounts, nothing_counted, with_state_counted, with_verdict, with_unfinished, values_in}
use Rattle.scheduler.specs.Plan.{Plan}
use Rattle.machine_runs.specs.Runs.{run_under, AnswersFit}
use Rattle.machine_runs.specs.Simulation.{verdict}

-- the first `count` choices of a seed, those of `seed N M` in a choice text, and the run of a test under them
abbrev pub choices_of : Litmus → ℕ → ℕ → List Choice
choices_of t count seed = seeded_choices (length t.programs) seed count

abbrev pub seeded_run : Litmus → ProtocolKind → Configuration → ℕ → ℕ → Run
seeded_run t kind c count seed = run_under t kind c (choices_of t count seed)

-- one more run is counted: where it ended, the values that its final state has, and the condition's truth there
abbrev pub with_one_run : Litmus → Run → RunCounts → RunCounts
with_one_run t r c =
    if r.ended
    then with_verdict (verdict t (registers_in r.state) r.state.memory) (with_state_counted (values_in t (registers_in r.state) r.state.memory) c)
    else with_unfinished c

-- what is counted of the runs of so many seeds: `from`, `from + 1`, and so on
abbrev pub counts_from : Litmus → ProtocolKind → Configuration → ℕ → ℕ → ℕ → RunCounts
counts_from t kind c count from zero = nothing_counted
counts_from t kind c count from (suc seeds) =
    with_one_run t (seeded_run t kind c count (from + seeds)) (counts_from t kind c count from seeds)

-- what is counted of a sweep; on the atomic bus neither the protocol nor the shape of the caches has a part in it
abbrev pub sweep_counts : Litmus → ProtocolKind → Configuration → Plan → RunCounts
sweep_counts t kind c plan = counts_from t kind c plan.length plan.from plan.seeds

-- in the run of each of so many seeds the answers are such as caches may give
abbrev pub AnswersFitFrom : Litmus → ProtocolKind → Configuration → ℕ → ℕ → ℕ → Type 0
AnswersFitFrom t kind c count from seeds = (n : ℕ) → n < seeds → AnswersFit t kind c (choices_of t count (from + n))

-- in the run of each seed of a plan they are
abbrev pub SweepAnswersFit : Litmus → ProtocolKind → Configuration → Plan → Type 0
SweepAnswersFit t kind c plan = AnswersFitFrom t kind c plan.length plan.from plan.seeds
