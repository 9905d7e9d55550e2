use Rattle.promises.proofs.commands.why.a_printed_execution_is_reached.Goals as goal

pub returns-clause-execution : goal.returns-clause-execution
returns-clause-execution c = λ t model json out said. said.execution

pub returns-clause-holds : goal.returns-clause-holds
returns-clause-holds c = λ t model json out said. said.holds

pub returns-clause-lead : goal.returns-clause-lead
returns-clause-lead c = λ t model json out said. said.lead

pub returns-clause-spelled : goal.returns-clause-spelled
returns-clause-spelled c = λ t model json out said. said.spelled

pub returns-clause-shown : goal.returns-clause-shown
returns-clause-shown c = λ t model json out said. (said.shown.candidate, said.shown.of_order, said.shown.printed)
