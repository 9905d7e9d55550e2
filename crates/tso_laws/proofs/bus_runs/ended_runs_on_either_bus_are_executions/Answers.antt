use Rattle.tso_laws.proofs.Ending.{is-execution}
use Rattle.tso_laws.proofs.bus_runs.ended_runs_on_either_bus_are_executions.Goals as goal

pub returns : goal.returns
returns c = is-execution c.ended_runs_are_executions.ensures
