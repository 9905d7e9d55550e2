use Rattle.tso_laws.proofs.Closing.{partly-miss-none}
use Rattle.tso_laws.proofs.left_out_states.partly_closed_states_miss_none.Goals as goal

pub returns : goal.returns
returns c = partly-miss-none c.runs_stop_where_they_end.ensures
