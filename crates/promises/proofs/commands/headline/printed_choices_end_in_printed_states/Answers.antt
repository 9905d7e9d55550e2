use Rattle.promises.proofs.commands.headline.printed_choices_end_in_printed_states.Goals as goal

pub returns-clause-printed_states : goal.returns-clause-printed_states
returns-clause-printed_states given = λ kind c set show json told test out said. said.printed

pub returns-clause-each : goal.returns-clause-each
returns-clause-each given = λ kind c set show json told test out said. said.each

pub returns-clause-printed : goal.returns-clause-printed
returns-clause-printed given = λ t names kind c json values out said. said.printed

pub returns-clause-values_are : goal.returns-clause-values_are
returns-clause-values_are given = λ t names kind c json values out said. said.values_are

pub returns-clause-stalled : goal.returns-clause-stalled
returns-clause-stalled given = λ t names kind c json values out said. said.stalled

pub returns-clause-unused : goal.returns-clause-unused
returns-clause-unused given = λ t names kind c json values out said. said.unused
