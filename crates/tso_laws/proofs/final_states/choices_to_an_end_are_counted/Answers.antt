use Rattle.tso_laws.proofs.EndsCounted.{counted}
use Rattle.tso_laws.proofs.final_states.choices_to_an_end_are_counted.Goals as goal

pub returns : goal.returns
returns c = counted c.runs_are_counted.ensures c.runs_stop_where_they_end.ensures
