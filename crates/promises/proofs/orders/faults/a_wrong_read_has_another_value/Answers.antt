use Rattle.promises.proofs.orders.faults.a_wrong_read_has_another_value.Goals as goal

pub returns-clause-read : goal.returns-clause-read
returns-clause-read c = λ t order at x said. said.read

pub returns-clause-wrong : goal.returns-clause-wrong
returns-clause-wrong c = λ t order at x said. said.wrong
