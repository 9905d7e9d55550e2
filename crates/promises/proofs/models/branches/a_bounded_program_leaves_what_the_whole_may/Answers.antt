use Rattle.promises.proofs.models.branches.a_bounded_program_leaves_what_the_whole_may.Goals as goal

pub returns-clause-each : goal.returns-clause-each
returns-clause-each c = c.bounded_outcomes_are_outcomes.ensures.each

pub returns-clause-all : goal.returns-clause-all
returns-clause-all c = c.bounded_outcomes_are_outcomes.ensures.all
