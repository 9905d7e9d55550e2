use Rattle.tso_laws.proofs.Unbuffered.{unbuffered}
use Rattle.tso_laws.proofs.final_states.unbuffered_runs_reach_exactly_the_sequentially_consistent.Goals as goal

pub returns : goal.returns
returns c =
    unbuffered c.stalls_change_nothing.ensures c.runs_stop_where_they_end.ensures
    c.runs_reach_exactly_the_executions.ensures c.ended_runs_are_executions.ensures c.no_buffer_no_reordering.ensures
