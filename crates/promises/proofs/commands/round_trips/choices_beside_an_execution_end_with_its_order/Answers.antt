use Rattle.promises.proofs.commands.round_trips.choices_beside_an_execution_end_with_its_order.Goals as goal

pub returns : goal.returns
returns c = c.reasons_reach_their_executions.ensures
