use Rattle.promises.proofs.orders.faults.a_bad_count_follows_the_entries.Goals as goal

pub returns-clause-begins : goal.returns-clause-begins
returns-clause-begins c = λ t text said. said.begins

pub returns-clause-no_count : goal.returns-clause-no_count
returns-clause-no_count c = λ t text said. said.no_count
