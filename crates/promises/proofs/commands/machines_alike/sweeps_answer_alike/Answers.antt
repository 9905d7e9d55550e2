use Rattle.promises.proofs.commands.machines_alike.sweeps_answer_alike.Goals as goal

pub returns-clause-status : goal.returns-clause-status
returns-clause-status given = λ kind other c d set plan input out again status too p1 p2 p3.
    (given.machines_on_the_atomic_bus_answer_alike.ensures.sweeps kind other c d set plan input out again status too p1 p2 p3).status

pub returns-clause-swept : goal.returns-clause-swept
returns-clause-swept given = λ kind other c d set plan input out again status too p1 p2 p3.
    (given.machines_on_the_atomic_bus_answer_alike.ensures.sweeps kind other c d set plan input out again status too p1 p2 p3).swept

pub returns-clause-refused : goal.returns-clause-refused
returns-clause-refused given = λ kind other c d set plan input out again status too p1 p2 p3.
    (given.machines_on_the_atomic_bus_answer_alike.ensures.sweeps kind other c d set plan input out again status too p1 p2 p3).refused
