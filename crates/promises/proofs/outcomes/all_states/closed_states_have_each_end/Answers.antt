use Rattle.promises.proofs.outcomes.all_states.closed_states_have_each_end.Goals as goal

pub returns : goal.returns
returns c = c.closed_states_miss_none.ensures
