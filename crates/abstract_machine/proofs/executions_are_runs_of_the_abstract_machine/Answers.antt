use Rattle.abstract_machine.proofs.Leading.{execution-runs}
use Rattle.abstract_machine.proofs.executions_are_runs_of_the_abstract_machine.Goals as goal

pub returns : goal.returns
returns c = execution-runs c.every_execution_is_reached.ensures
