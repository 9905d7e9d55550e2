use Rattle.abstract_machine.proofs.Bounded.{most-stores-few}
use Rattle.abstract_machine.proofs.most_stores_are_at_most_32.Goals as goal

pub returns : goal.returns
returns c = most-stores-few
