use Rattle.promises.proofs.models.branches.finitely_many_paths_are_enough.Goals as goal

pub returns : goal.returns
returns c = c.outcomes_are_the_union_of_paths.ensures
