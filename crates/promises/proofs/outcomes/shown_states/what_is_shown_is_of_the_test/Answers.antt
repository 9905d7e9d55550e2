use Rattle.promises.proofs.outcomes.shown_states.what_is_shown_is_of_the_test.Goals as goal

pub returns-clause-list : goal.returns-clause-list
returns-clause-list c = c.names_shown.ensures.list

pub returns-clause-known : goal.returns-clause-known
returns-clause-known c = c.names_shown.ensures.known
