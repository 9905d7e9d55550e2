use Rattle.promises.proofs.models.branches.an_addition_has_one_program.Goals as goal

pub returns-clause-executions : goal.returns-clause-executions
returns-clause-executions c = c.additions_share_a_test.ensures.executions

pub returns-clause-program : goal.returns-clause-program
returns-clause-program c = c.additions_share_a_test.ensures.program
