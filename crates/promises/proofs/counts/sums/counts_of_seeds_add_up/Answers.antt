use Rattle.promises.proofs.counts.sums.counts_of_seeds_add_up.Goals as goal

pub returns-clause-requests : goal.returns-clause-requests
returns-clause-requests given = λ t kind c plan core fit l. (given.sums_over_runs_add_up.ensures t kind c plan core fit l).requests

pub returns-clause-supplies : goal.returns-clause-supplies
returns-clause-supplies given = λ t kind c plan core fit l. (given.sums_over_runs_add_up.ensures t kind c plan core fit l).supplies
