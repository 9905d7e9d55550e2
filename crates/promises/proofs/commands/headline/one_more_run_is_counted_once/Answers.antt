use Rattle.promises.proofs.commands.headline.one_more_run_is_counted_once.Goals as goal

pub returns-clause-own : goal.returns-clause-own
returns-clause-own c = c.one_more_run_is_counted.ensures.own

pub returns-clause-others : goal.returns-clause-others
returns-clause-others c = c.one_more_run_is_counted.ensures.others

pub returns-clause-order : goal.returns-clause-order
returns-clause-order c = c.one_more_run_is_counted.ensures.order
