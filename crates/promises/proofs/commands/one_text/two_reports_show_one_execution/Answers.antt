use Rattle.promises.proofs.commands.one_text.two_reports_show_one_execution.Goals as goal

pub returns-clause-first : goal.returns-clause-first
returns-clause-first given = λ kind c json out other said. said.first

pub returns-clause-second : goal.returns-clause-second
returns-clause-second given = λ kind c json out other said. said.second

pub returns-clause-order : goal.returns-clause-order
returns-clause-order given = λ kind c json out other said. said.order

pub returns-clause-registers : goal.returns-clause-registers
returns-clause-registers given = λ kind c json out other said. said.registers

pub returns-clause-memory : goal.returns-clause-memory
returns-clause-memory given = λ kind c json out other said. said.memory

pub returns-clause-holds : goal.returns-clause-holds
returns-clause-holds given = λ kind c json out other said. said.holds
