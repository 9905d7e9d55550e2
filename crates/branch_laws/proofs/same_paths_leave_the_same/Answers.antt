use Rattle.branch_laws.proofs.SamePaths.{leave-the-same}
use Rattle.branch_laws.proofs.same_paths_leave_the_same.Goals as goal

pub returns : goal.returns
returns c =
    leave-the-same c.runs_stop_where_they_end.ensures c.whole_orders_have_each_entry_once.ensures c.runs_reach_exactly_the_executions.ensures
    c.ended_runs_are_executions.ensures c.most_stores_are_depth_enough.ensures.greatest
