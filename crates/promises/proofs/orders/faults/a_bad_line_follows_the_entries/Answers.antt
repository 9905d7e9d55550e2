use Rattle.promises.proofs.orders.faults.a_bad_line_follows_the_entries.Goals as goal

pub returns-clause-begins : goal.returns-clause-begins
returns-clause-begins c = λ t text number said. said.begins

pub returns-clause-no_entry : goal.returns-clause-no_entry
returns-clause-no_entry c = λ t text number said. said.no_entry

pub returns-clause-no_end : goal.returns-clause-no_end
returns-clause-no_end c = λ t text number said. said.no_end

pub returns-clause-numbered : goal.returns-clause-numbered
returns-clause-numbered c = λ t text number said. said.numbered
