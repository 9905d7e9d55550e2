use Rattle.promises.proofs.machine.both_buses.a_use_of_the_caches_is_an_access.Goals as goal

pub returns-clause-uses : goal.returns-clause-uses
returns-clause-uses c = c.accesses_are_what_is_counted.ensures.uses

pub returns-clause-answers : goal.returns-clause-answers
returns-clause-answers c = c.accesses_are_what_is_counted.ensures.answers
