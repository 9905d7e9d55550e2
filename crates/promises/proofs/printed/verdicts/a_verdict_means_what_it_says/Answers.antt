use Rattle.promises.proofs.printed.verdicts.a_verdict_means_what_it_says.Goals as goal

pub returns-clause-ok : goal.returns-clause-ok
returns-clause-ok c = c.verdicts_mean_what_they_say.ensures.ok

pub returns-clause-no : goal.returns-clause-no
returns-clause-no c = c.verdicts_mean_what_they_say.ensures.no
