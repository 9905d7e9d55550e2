use Rattle.promises.proofs.commands.headline.a_counted_state_is_of_the_test.Goals as goal

pub returns-clause-each : goal.returns-clause-each
returns-clause-each c = λ t values said. said.each

pub returns-clause-words : goal.returns-clause-words
returns-clause-words c = λ t values said. said.words

pub returns-clause-verdict : goal.returns-clause-verdict
returns-clause-verdict c = λ t s said. said.verdict
