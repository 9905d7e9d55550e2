use Rattle.promises.proofs.commands.round_trips.a_depth_of_32_is_enough_for_each_execution.Goals as goal

pub returns : goal.returns
returns c = c.greatest_depth_is_enough.ensures
