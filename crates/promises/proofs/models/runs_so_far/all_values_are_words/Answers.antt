use Rattle.promises.proofs.models.runs_so_far.all_values_are_words.Goals as goal

pub returns-clause-values : goal.returns-clause-values
returns-clause-values c = λ t depth choices p1. (c.values_are_words.ensures.in_runs t depth choices p1).values

pub returns-clause-memory : goal.returns-clause-memory
returns-clause-memory c = λ t depth choices p1. (c.values_are_words.ensures.in_runs t depth choices p1).memory

pub returns-clause-registers : goal.returns-clause-registers
returns-clause-registers c = λ t depth choices p1. (c.values_are_words.ensures.in_runs t depth choices p1).registers

pub returns-clause-in_executions : goal.returns-clause-in_executions
returns-clause-in_executions c = c.values_are_words.ensures.in_executions

pub returns-clause-within : goal.returns-clause-within
returns-clause-within c = c.smaller_depths_never_reach.ensures.within

pub returns-clause-never : goal.returns-clause-never
returns-clause-never c = c.smaller_depths_never_reach.ensures.never
