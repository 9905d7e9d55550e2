use Rattle.promises.proofs.commands.machines_alike.runs_answer_alike.Goals as goal

pub returns-clause-status : goal.returns-clause-status
returns-clause-status given = λ kind other c d set json input out again status too p1 p2 p3.
    (given.machines_on_the_atomic_bus_answer_alike.ensures.runs kind other c d set json input out again status too p1 p2 p3).status

pub returns-clause-ended : goal.returns-clause-ended
returns-clause-ended given = λ kind other c d set json input out again status too p1 p2 p3.
    (given.machines_on_the_atomic_bus_answer_alike.ensures.runs kind other c d set json input out again status too p1 p2 p3).ended

pub returns-clause-otherwise : goal.returns-clause-otherwise
returns-clause-otherwise given = λ kind other c d set json input out again status too p1 p2 p3.
    (given.machines_on_the_atomic_bus_answer_alike.ensures.runs kind other c d set json input out again status too p1 p2 p3).otherwise
