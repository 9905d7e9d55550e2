use Rattle.branch_laws.proofs.InRounds.{paths-of-rounds, last-round}
use Rattle.branch_laws.proofs.read_values_are_of_rounds.Goals as goal

pub returns : goal.returns
returns c = record { as_many_as_writes = paths-of-rounds c.whole_orders_have_each_entry_once.ensures; last_round = last-round }
