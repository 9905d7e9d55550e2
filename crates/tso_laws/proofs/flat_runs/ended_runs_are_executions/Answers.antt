use Rattle.tso_laws.proofs.SoFar.{test-locations}
use Rattle.tso_laws.proofs.Beginnings.{run-is-execution}
use Rattle.tso_laws.proofs.flat_runs.ended_runs_are_executions.Goals as goal

pub returns : goal.returns
returns c = λ t depth choices test ended. run-is-execution t depth choices (test-locations t test) ended
