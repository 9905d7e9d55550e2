use Rattle.promises.proofs.models.branches.runs_over_trees_reach_the_executions.Goals as goal

pub returns : goal.returns
returns c = c.tree_runs_reach_exactly_the_executions.ensures
