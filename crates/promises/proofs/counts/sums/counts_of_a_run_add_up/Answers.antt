use Rattle.promises.proofs.counts.sums.counts_of_a_run_add_up.Goals as goal

pub returns-clause-accesses : goal.returns-clause-accesses
returns-clause-accesses given = λ t kind c choices core fit ended l. (given.counts_add_up.ensures t kind c choices core fit ended l).made

pub returns-clause-requests : goal.returns-clause-requests
returns-clause-requests given = λ t kind c choices core fit ended l. (given.counts_add_up.ensures t kind c choices core fit ended l).requested

pub returns-clause-supplies : goal.returns-clause-supplies
returns-clause-supplies given = λ t kind c choices core fit ended l. (given.counts_add_up.ensures t kind c choices core fit ended l).supplied
