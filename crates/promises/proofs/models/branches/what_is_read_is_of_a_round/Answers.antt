use Rattle.promises.proofs.models.branches.what_is_read_is_of_a_round.Goals as goal

pub returns-clause-as_many_as_writes : goal.returns-clause-as_many_as_writes
returns-clause-as_many_as_writes c = c.read_values_are_of_rounds.ensures.as_many_as_writes

pub returns-clause-last_round : goal.returns-clause-last_round
returns-clause-last_round c = c.read_values_are_of_rounds.ensures.last_round
