use Rattle.promises.proofs.commands.one_text.headlines_leave_one_text_of_each_command.Goals as goal

pub returns-clause-runs : goal.returns-clause-runs
returns-clause-runs given = λ kind c set json input out other p1 p2. (given.headlines_leave_one_text.ensures.runs kind c set json input out other p1 p2)

pub returns-clause-traces : goal.returns-clause-traces
returns-clause-traces given = λ kind c set json input out other p1 p2. (given.headlines_leave_one_text.ensures.traces kind c set json input out other p1 p2)

pub returns-clause-sweeps : goal.returns-clause-sweeps
returns-clause-sweeps given = λ kind c set plan input out other p1 p2. (given.headlines_leave_one_text.ensures.sweeps kind c set plan input out other p1 p2)

pub returns-clause-checks : goal.returns-clause-checks
returns-clause-checks c = λ set input out other p1 p2. (c.headlines_leave_one_text.ensures.checks set input out other p1 p2)

pub returns-clause-witnesses : goal.returns-clause-witnesses
returns-clause-witnesses c = λ depth set input out other p1 p2. (c.headlines_leave_one_text.ensures.witnesses depth set input out other p1 p2)
