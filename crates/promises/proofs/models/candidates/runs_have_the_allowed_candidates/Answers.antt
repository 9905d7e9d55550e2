use Rattle.promises.proofs.models.candidates.runs_have_the_allowed_candidates.Goals as goal

pub returns-clause-run_allowed : goal.returns-clause-run_allowed
returns-clause-run_allowed c = λ t depth choices p1 p2. (c.runs_have_exactly_the_allowed_candidates.ensures.allowed t depth choices p1 p2)

pub returns-clause-reached : goal.returns-clause-reached
returns-clause-reached given = λ t c p1 p2. (given.runs_have_exactly_the_allowed_candidates.ensures.reached t c p1 p2)
