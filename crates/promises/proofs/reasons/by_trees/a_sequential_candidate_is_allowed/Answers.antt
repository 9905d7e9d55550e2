use Rattle.promises.proofs.reasons.by_trees.a_sequential_candidate_is_allowed.Goals as goal

pub returns : goal.returns
returns c = record { allowed = c.sequential_candidates_are_sequential_executions.ensures.allowed }
