use Rattle.promises.proofs.commands.machines_alike.sweeps_differ_in_a_line.Goals as goal

pub returns-clause-whole_lines : goal.returns-clause-whole_lines
returns-clause-whole_lines given = λ kind other c d out again said. said.whole_lines

pub returns-clause-first : goal.returns-clause-first
returns-clause-first given = λ kind other c d out again said. said.first

pub returns-clause-second : goal.returns-clause-second
returns-clause-second given = λ kind other c d out again said. said.second
