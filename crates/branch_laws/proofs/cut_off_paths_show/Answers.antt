use Rattle.branch_laws.proofs.Marks.{none-cut-off}
use Rattle.branch_laws.proofs.cut_off_paths_show.Goals as goal

pub returns : goal.returns
returns c =
    none-cut-off c.runs_stop_where_they_end.ensures c.whole_orders_have_each_entry_once.ensures c.runs_reach_exactly_the_executions.ensures
    c.most_stores_are_depth_enough.ensures.greatest c.tree_ends_are_the_outcomes.ensures
