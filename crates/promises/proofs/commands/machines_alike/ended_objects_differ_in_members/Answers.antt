use Rattle.promises.proofs.commands.machines_alike.ended_objects_differ_in_members.Goals as goal

pub returns-clause-reports : goal.returns-clause-reports
returns-clause-reports given = λ kind other c d out again said. said.reports

pub returns-clause-first : goal.returns-clause-first
returns-clause-first given = λ kind other c d out again said. said.first

pub returns-clause-second : goal.returns-clause-second
returns-clause-second given = λ kind other c d out again said. said.second
