use Rattle.promises.proofs.models.branches.a_program_with_branches_ends_as_one_of_its_paths.Goals as goal

pub returns-clause-own_path : goal.returns-clause-own_path
returns-clause-own_path c = c.splitting_is_exact.ensures.own_path

pub returns-clause-some_path : goal.returns-clause-some_path
returns-clause-some_path c = c.splitting_is_exact.ensures.some_path

pub returns-clause-outcomes : goal.returns-clause-outcomes
returns-clause-outcomes c = c.splitting_is_exact.ensures.outcomes
