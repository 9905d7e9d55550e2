use Rattle.promises.proofs.printed.verdicts.the_true_states_are_named.Goals as goal

pub returns-clause-lines : goal.returns-clause-lines
returns-clause-lines c = c.true_names_the_true_states.ensures.lines

pub returns-clause-json : goal.returns-clause-json
returns-clause-json c = c.true_names_the_true_states.ensures.json
