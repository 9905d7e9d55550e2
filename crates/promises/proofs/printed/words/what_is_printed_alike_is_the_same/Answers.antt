use Rattle.promises.proofs.printed.words.what_is_printed_alike_is_the_same.Goals as goal

pub returns-clause-lines : goal.returns-clause-lines
returns-clause-lines c = c.outcomes_tell_their_states.ensures.lines

pub returns-clause-object : goal.returns-clause-object
returns-clause-object c = c.outcomes_tell_their_states.ensures.json

pub returns-clause-lines_name : goal.returns-clause-lines_name
returns-clause-lines_name c = c.outcomes_tell_their_tests.ensures.lines

pub returns-clause-object_names : goal.returns-clause-object_names
returns-clause-object_names c = c.outcomes_tell_their_tests.ensures.json
