use Rattle.abstract_machine.proofs.Returning.{run-returns}
use Rattle.abstract_machine.proofs.runs_of_the_abstract_machine_are_executions.Goals as goal

pub returns-clause-order : goal.returns-clause-order
returns-clause-order c = λ t order m test e.
    (run-returns c.choices_lead_from_state_to_state.ensures.next c.runs_stop_where_they_end.ensures.stops
    c.ended_runs_are_executions.ensures t order m test e).order_is

pub returns-clause-memory : goal.returns-clause-memory
returns-clause-memory c = λ t order m test e.
    (run-returns c.choices_lead_from_state_to_state.ensures.next c.runs_stop_where_they_end.ensures.stops
    c.ended_runs_are_executions.ensures t order m test e).memory

pub returns-clause-registers : goal.returns-clause-registers
returns-clause-registers c = λ t order m test e.
    (run-returns c.choices_lead_from_state_to_state.ensures.next c.runs_stop_where_they_end.ensures.stops
    c.ended_runs_are_executions.ensures t order m test e).registers
