use Rattle.promises.proofs.orders.built_orders.program_order_is_an_order_of_numbers.Goals as goal

pub returns : goal.returns
returns c = c.program_order_goes_by_rank.ensures
