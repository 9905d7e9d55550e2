-- The answer of `sweep`: what is counted of the runs under many seeds. Each run is one that `run` makes of `seed N M`.
use Rattle.std.specs.Prelude.{ℕ, ◌≡◌, ◌==◌, if◌then◌else◌, List, ◌++◌}
use Rattle.tso_cli.specs.Vocabulary.{Configuration, head, Litmus, ProtocolKind}
use Rattle.tso_report.specs.Tally.{RunCounts, tally_text}
use Rattle.scheduler.specs.Plan.{Plan}
use Rattle.tso_cli.specs.declared.answer.Status.{Status}
use Rattle.tso_cli.specs.declared.answer.Status.TheVariants.{Good, Unended}
use Rattle.sweep_runs.specs.Counting.{SweepAnswersFit, sweep_counts}

-- the lines of a sweep in which this was counted
abbrev pub sweep_lines : Litmus → ProtocolKind → Configuration → Plan → RunCounts → List ℕ
sweep_lines t kind c plan counts = head t kind c ++ tally_text t counts plan.from plan.length

-- whether all runs ended
abbrev pub sweep_status : RunCounts → Status
sweep_status counts = if counts.unfinished == 0 then Good else Unended

-- the answer of `sweep` to a test
pub record IsSweepAnswer (t : Litmus) (kind : ProtocolKind) (c : Configuration) (plan : Plan) (out : List ℕ) (status : Status)
    : Type 0 where
  pub text : out ≡ sweep_lines t kind c plan (sweep_counts t kind c plan)
  pub status_is : status ≡ sweep_status (sweep_counts t kind c plan)
  pub answers : SweepAnswersFit t kind c plan
