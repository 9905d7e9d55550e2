use Rattle.promises.proofs.commands.one_text.two_traces_tell_one_execution.Goals as goal

pub returns-clause-first : goal.returns-clause-first
returns-clause-first given = λ kind c out other said. said.first

pub returns-clause-second : goal.returns-clause-second
returns-clause-second given = λ kind c out other said. said.second

pub returns-clause-reports : goal.returns-clause-reports
returns-clause-reports given = λ kind c out other said. said.reports
