use Rattle.promises.proofs.printed.verdicts.a_status_tells_the_verdict.Goals as goal

pub returns-clause-outcomes_no : goal.returns-clause-outcomes_no
returns-clause-outcomes_no c = c.statuses_tell_the_verdict.ensures.outcomes_no

pub returns-clause-outcomes_ok : goal.returns-clause-outcomes_ok
returns-clause-outcomes_ok c = c.statuses_tell_the_verdict.ensures.outcomes_ok

pub returns-clause-outcomes_unasserted : goal.returns-clause-outcomes_unasserted
returns-clause-outcomes_unasserted c = c.statuses_tell_the_verdict.ensures.outcomes_unasserted

pub returns-clause-why_no : goal.returns-clause-why_no
returns-clause-why_no c = c.statuses_tell_the_verdict.ensures.why_no

pub returns-clause-why_ok : goal.returns-clause-why_ok
returns-clause-why_ok c = c.statuses_tell_the_verdict.ensures.why_ok

pub returns-clause-why_unasserted : goal.returns-clause-why_unasserted
returns-clause-why_unasserted c = c.statuses_tell_the_verdict.ensures.why_unasserted
