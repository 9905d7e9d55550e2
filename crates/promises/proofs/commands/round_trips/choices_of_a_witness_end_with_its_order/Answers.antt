use Rattle.promises.proofs.commands.round_trips.choices_of_a_witness_end_with_its_order.Goals as goal

pub returns : goal.returns
returns c = c.witnesses_reach_their_orders.ensures
