use Rattle.promises.proofs.models.candidates.a_candidate_of_a_run_leaves_its_state.Goals as goal

pub returns-clause-order : goal.returns-clause-order
returns-clause-order given = λ t r c said. said.order

pub returns-clause-memory : goal.returns-clause-memory
returns-clause-memory given = λ t r c said. said.memory

pub returns-clause-registers : goal.returns-clause-registers
returns-clause-registers given = λ t r c said. said.registers
