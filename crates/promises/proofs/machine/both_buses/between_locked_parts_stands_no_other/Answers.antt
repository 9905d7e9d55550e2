use Rattle.promises.proofs.machine.both_buses.between_locked_parts_stands_no_other.Goals as goal

pub returns-clause-core : goal.returns-clause-core
returns-clause-core c = λ x e said. said.core

pub returns-clause-no_load_part : goal.returns-clause-no_load_part
returns-clause-no_load_part c = λ x e said. said.no_load_part

pub returns-clause-no_store_part : goal.returns-clause-no_store_part
returns-clause-no_store_part c = λ x e said. said.no_store_part
