use Rattle.promises.proofs.commands.why.a_printed_refutation_rules_out.Goals as goal

pub returns-clause-executions : goal.returns-clause-executions
returns-clause-executions c = λ t model json out order said. said.executions order

pub returns-clause-runs : goal.returns-clause-runs
returns-clause-runs c = λ t model json out depth choices said. said.runs depth choices
