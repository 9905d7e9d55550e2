use Rattle.branch_laws.proofs.TreeEnds.{ends}
use Rattle.branch_laws.proofs.tree_ends_are_the_outcomes.Goals as goal

pub returns : goal.returns
returns c =
    ends c.runs_stop_where_they_end.ensures c.whole_orders_have_each_entry_once.ensures c.runs_reach_exactly_the_executions.ensures
    c.ended_runs_are_executions.ensures c.most_stores_are_depth_enough.ensures.greatest
