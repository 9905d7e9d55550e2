use Rattle.promises.proofs.traces.cores_and_caches.a_step_tells_its_core.Goals as goal

pub returns-clause-moved : goal.returns-clause-moved
returns-clause-moved c = λ m choice. (c.steps_are_told.ensures.cores m choice).moved

pub returns-clause-unmoved : goal.returns-clause-unmoved
returns-clause-unmoved c = λ m choice. (c.steps_are_told.ensures.cores m choice).unmoved

pub returns-clause-pending : goal.returns-clause-pending
returns-clause-pending c = λ m choice. (c.steps_are_told.ensures.cores m choice).buffer

pub returns-clause-flat : goal.returns-clause-flat
returns-clause-flat c = λ m choice. (c.steps_are_told.ensures.cores m choice).flat
