use Rattle.promises.proofs.counts.sums.traffic_is_sums_of_traced_steps.Goals as goal

pub returns-clause-invalidations : goal.returns-clause-invalidations
returns-clause-invalidations given =
    λ t kind c choices core test words has. (given.traffic_is_sums_of_steps.ensures t kind c choices core test words has).invalidations

pub returns-clause-to_memory : goal.returns-clause-to_memory
returns-clause-to_memory given =
    λ t kind c choices core test words has. (given.traffic_is_sums_of_steps.ensures t kind c choices core test words has).to_memory
