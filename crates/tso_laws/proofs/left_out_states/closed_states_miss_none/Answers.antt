use Rattle.tso_laws.proofs.Closing.{miss-none}
use Rattle.tso_laws.proofs.left_out_states.closed_states_miss_none.Goals as goal

pub returns : goal.returns
returns c = miss-none c.runs_stop_where_they_end.ensures
