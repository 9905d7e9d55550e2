use Rattle.promises.proofs.traces.cores_and_caches.a_step_tells_the_caches.Goals as goal

pub returns-clause-others : goal.returns-clause-others
returns-clause-others c = c.steps_are_told.ensures.others

pub returns-clause-gave_way : goal.returns-clause-gave_way
returns-clause-gave_way c =
    λ table config t choices choice line test words none there. c.steps_are_told.ensures.write_backs table config t choices choice test words none there line
