use Rattle.promises.proofs.commands.machines_alike.traces_differ_in_lines.Goals as goal

pub returns-clause-whole_lines : goal.returns-clause-whole_lines
returns-clause-whole_lines given = λ kind other c d out again said. said.whole_lines

pub returns-clause-cores : goal.returns-clause-cores
returns-clause-cores given = λ kind other c d out again said. said.cores

pub returns-clause-first : goal.returns-clause-first
returns-clause-first given = λ kind other c d out again said. said.first

pub returns-clause-second : goal.returns-clause-second
returns-clause-second given = λ kind other c d out again said. said.second
