use Rattle.tso_laws.proofs.Allowed.{ends-allowed}
use Rattle.tso_laws.proofs.final_states.ends_are_what_tso_allows.Goals as goal

pub returns : goal.returns
returns c =
    ends-allowed c.runs_reach_exactly_the_executions.ensures
    c.unbuffered_runs_reach_exactly_the_sequentially_consistent.ensures c.ended_runs_are_executions.ensures
