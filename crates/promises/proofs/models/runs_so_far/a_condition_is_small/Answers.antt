use Rattle.promises.proofs.models.runs_so_far.a_condition_is_small.Goals as goal

pub returns-clause-atoms : goal.returns-clause-atoms
returns-clause-atoms given = λ cores locations c said. said.atoms

pub returns-clause-negations : goal.returns-clause-negations
returns-clause-negations given = λ cores locations c said. said.negations
