use Rattle.tso_laws.proofs.Reaching.{execution-leads}
use Rattle.tso_laws.proofs.flat_runs.every_execution_is_reached.Goals as goal

pub returns : goal.returns
returns c = execution-leads
