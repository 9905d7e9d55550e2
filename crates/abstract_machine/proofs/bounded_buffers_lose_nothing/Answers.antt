use Rattle.abstract_machine.proofs.Bounded.{bounded-is-free}
use Rattle.abstract_machine.proofs.bounded_buffers_lose_nothing.Goals as goal

pub returns-clause-deep_enough : goal.returns-clause-deep_enough
returns-clause-deep_enough c =
    bounded-is-free c.ended_runs_are_executions.ensures c.every_execution_is_reached.ensures
    c.most_stores_are_depth_enough.ensures.of_a_program c.executions_are_runs_of_the_abstract_machine.ensures
    c.runs_of_the_abstract_machine_are_executions.ensures.order

pub returns-clause-at_the_greatest : goal.returns-clause-at_the_greatest
returns-clause-at_the_greatest c = λ t order test.
    bounded-is-free c.ended_runs_are_executions.ensures c.every_execution_is_reached.ensures
    c.most_stores_are_depth_enough.ensures.of_a_program c.executions_are_runs_of_the_abstract_machine.ensures
    c.runs_of_the_abstract_machine_are_executions.ensures.order t 32 order test (c.most_stores_are_at_most_32.ensures t test)
