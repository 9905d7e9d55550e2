use Rattle.promises.proofs.counts.sums.given_choices_are_counted_or_refused.Goals as goal

pub returns-clause-counted : goal.returns-clause-counted
returns-clause-counted given = λ t kind c json text out said. said.every_list

pub returns-clause-refused : goal.returns-clause-refused
returns-clause-refused given = λ t kind c json text out said. said.every_other
