use Rattle.tso_laws.proofs.Reaching.{reached-exactly, greatest-exactly}
use Rattle.tso_laws.proofs.flat_runs.runs_reach_exactly_the_executions.Goals as goal

pub returns : goal.returns
returns c = record { by_depth = reached-exactly; at_the_greatest = greatest-exactly }
