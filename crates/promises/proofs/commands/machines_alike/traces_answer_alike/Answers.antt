use Rattle.promises.proofs.commands.machines_alike.traces_answer_alike.Goals as goal

pub returns-clause-status : goal.returns-clause-status
returns-clause-status given = λ kind other c d set json input out again status too p1 p2 p3.
    (given.machines_on_the_atomic_bus_answer_alike.ensures.traces kind other c d set json input out again status too p1 p2 p3).status

pub returns-clause-traced : goal.returns-clause-traced
returns-clause-traced given = λ kind other c d set json input out again status too p1 p2 p3.
    (given.machines_on_the_atomic_bus_answer_alike.ensures.traces kind other c d set json input out again status too p1 p2 p3).traced

pub returns-clause-refused : goal.returns-clause-refused
returns-clause-refused given = λ kind other c d set json input out again status too p1 p2 p3.
    (given.machines_on_the_atomic_bus_answer_alike.ensures.traces kind other c d set json input out again status too p1 p2 p3).refused
