use Rattle.sweeper.proofs.counting.sweep.Goals as goal

pub returns-clause-counts : goal.returns-clause-counts
returns-clause-counts c = c.in_ok-all_ended.ensures.counts

pub returns-clause-answers : goal.returns-clause-answers
returns-clause-answers c = c.in_ok-all_ended.ensures.answers
