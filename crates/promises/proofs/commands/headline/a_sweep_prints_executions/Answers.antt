use Rattle.promises.proofs.commands.headline.a_sweep_prints_executions.Goals as goal

pub returns-clause-runs : goal.returns-clause-runs
returns-clause-runs given = λ t kind c plan run_of out said. said.runs

pub returns-clause-executions : goal.returns-clause-executions
returns-clause-executions given = λ t kind c plan run_of out said. said.executions

pub returns-clause-every_seed : goal.returns-clause-every_seed
returns-clause-every_seed given = λ t kind c plan run_of out said. said.every_seed

pub returns-clause-unbuffered : goal.returns-clause-unbuffered
returns-clause-unbuffered given = λ t kind c plan run_of out said. said.unbuffered

pub returns-clause-lines : goal.returns-clause-lines
returns-clause-lines given = λ t kind c plan run_of out said. said.lines
