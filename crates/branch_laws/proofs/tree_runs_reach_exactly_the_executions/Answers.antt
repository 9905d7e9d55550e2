use Rattle.branch_laws.proofs.Returning.{tree-runs-exactly}
use Rattle.branch_laws.proofs.tree_runs_reach_exactly_the_executions.Goals as goal

pub returns : goal.returns
returns c = tree-runs-exactly c.runs_stop_where_they_end.ensures c.runs_reach_exactly_the_executions.ensures
