use Rattle.promises.proofs.models.abstract_machine_runs.a_held_lock_stays_until_its_holder_frees_it.Goals as goal

pub returns-clause-held : goal.returns-clause-held
returns-clause-held c = c.only_the_holder_unlocks.ensures.held

pub returns-clause-free : goal.returns-clause-free
returns-clause-free c = c.only_the_holder_unlocks.ensures.free

pub returns-clause-ends : goal.returns-clause-ends
returns-clause-ends c = c.only_the_holder_unlocks.ensures.ends
