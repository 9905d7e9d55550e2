use Rattle.promises.proofs.counts.sums.counts_are_sums_of_traced_steps.Goals as goal

pub returns-clause-hits : goal.returns-clause-hits
returns-clause-hits given = λ t kind c choices core has. (given.counts_are_sums_of_steps.ensures t kind c choices core has).hits

pub returns-clause-misses : goal.returns-clause-misses
returns-clause-misses given = λ t kind c choices core has. (given.counts_are_sums_of_steps.ensures t kind c choices core has).misses

pub returns-clause-upgrades : goal.returns-clause-upgrades
returns-clause-upgrades given = λ t kind c choices core has. (given.counts_are_sums_of_steps.ensures t kind c choices core has).upgrades

pub returns-clause-forwards : goal.returns-clause-forwards
returns-clause-forwards given = λ t kind c choices core has. (given.counts_are_sums_of_steps.ensures t kind c choices core has).forwards

pub returns-clause-get_s : goal.returns-clause-get_s
returns-clause-get_s given = λ t kind c choices core has. (given.counts_are_sums_of_steps.ensures t kind c choices core has).get_s

pub returns-clause-get_m : goal.returns-clause-get_m
returns-clause-get_m given = λ t kind c choices core has. (given.counts_are_sums_of_steps.ensures t kind c choices core has).get_m
