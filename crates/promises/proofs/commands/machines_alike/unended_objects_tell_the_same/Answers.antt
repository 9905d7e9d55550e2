use Rattle.promises.proofs.commands.machines_alike.unended_objects_tell_the_same.Goals as goal

pub returns-clause-first : goal.returns-clause-first
returns-clause-first given = λ kind other c d out again said. said.first

pub returns-clause-second : goal.returns-clause-second
returns-clause-second given = λ kind other c d out again said. said.second
