use Rattle.promises.proofs.orders.faults.an_entry_overtook_another.Goals as goal

pub returns-clause-sooner : goal.returns-clause-sooner
returns-clause-sooner c = λ at a j b said. said.sooner

pub returns-clause-swapped : goal.returns-clause-swapped
returns-clause-swapped c = λ at a j b said. said.swapped
