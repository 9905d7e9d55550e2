use Rattle.promises.proofs.commands.machines_alike.objects_differ_in_members.Goals as goal

pub returns-clause-cores : goal.returns-clause-cores
returns-clause-cores given = λ kind other c d out again said. said.cores

pub returns-clause-first : goal.returns-clause-first
returns-clause-first given = λ kind other c d out again said. said.first

pub returns-clause-second : goal.returns-clause-second
returns-clause-second given = λ kind other c d out again said. said.second
