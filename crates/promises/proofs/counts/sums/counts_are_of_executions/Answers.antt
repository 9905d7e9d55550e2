use Rattle.promises.proofs.counts.sums.counts_are_of_executions.Goals as goal

pub returns-clause-printed : goal.returns-clause-printed
returns-clause-printed given = λ t kind c plan json choices_in runs out said. said.printed

pub returns-clause-tells : goal.returns-clause-tells
returns-clause-tells given = λ t kind c plan json choices_in runs out said. said.tells

pub returns-clause-executions : goal.returns-clause-executions
returns-clause-executions given = λ t kind c plan json choices_in runs out said. said.executions
