use Rattle.promises.proofs.models.final_states.what_was_found_is_allowed.Goals as goal

pub returns-clause-tso_allowed : goal.returns-clause-tso_allowed
returns-clause-tso_allowed c = λ t hidden finals said. said.allowed

pub returns-clause-tso_complete : goal.returns-clause-tso_complete
returns-clause-tso_complete c = λ t hidden finals registers memory said. said.complete registers memory

pub returns-clause-sequential_allowed : goal.returns-clause-sequential_allowed
returns-clause-sequential_allowed c = λ t hidden finals said. said.allowed

pub returns-clause-sequential_complete : goal.returns-clause-sequential_complete
returns-clause-sequential_complete c = λ t hidden finals registers memory said. said.complete registers memory
