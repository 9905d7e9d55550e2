use Rattle.promises.proofs.models.abstract_machine_runs.a_run_leaves_the_final_state_of_its_order.Goals as goal

pub returns-clause-memory : goal.returns-clause-memory
returns-clause-memory c = λ t order m p1 p2. (c.runs_of_the_abstract_machine_are_executions.ensures.memory t order m p1 p2)

pub returns-clause-registers : goal.returns-clause-registers
returns-clause-registers c = λ t order m p1 p2. (c.runs_of_the_abstract_machine_are_executions.ensures.registers t order m p1 p2)

pub returns-clause-deep_enough : goal.returns-clause-deep_enough
returns-clause-deep_enough c = λ t depth order p1 p2. (c.bounded_buffers_lose_nothing.ensures.deep_enough t depth order p1 p2)

pub returns-clause-at_the_greatest : goal.returns-clause-at_the_greatest
returns-clause-at_the_greatest c = λ t order p1. (c.bounded_buffers_lose_nothing.ensures.at_the_greatest t order p1)
