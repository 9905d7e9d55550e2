use Rattle.promises.proofs.printed.runs.two_runs_are_told_apart.Goals as goal

pub returns-clause-ended : goal.returns-clause-ended
returns-clause-ended given = λ t kind c json choices other p1 p2 p3 p4 p5 p6 p7.
    (given.printed_runs_are_told.ensures t kind c json choices other p1 p2 p3 p4 p5 p6 p7).ended

pub returns-clause-shown : goal.returns-clause-shown
returns-clause-shown given = λ t kind c json choices other p1 p2 p3 p4 p5 p6 p7.
    (given.printed_runs_are_told.ensures t kind c json choices other p1 p2 p3 p4 p5 p6 p7).shown

pub returns-clause-used : goal.returns-clause-used
returns-clause-used given = λ t kind c json choices other p1 p2 p3 p4 p5 p6 p7.
    (given.printed_runs_are_told.ensures t kind c json choices other p1 p2 p3 p4 p5 p6 p7).used

pub returns-clause-stalled : goal.returns-clause-stalled
returns-clause-stalled given = λ t kind c json choices other p1 p2 p3 p4 p5 p6 p7.
    (given.printed_runs_are_told.ensures t kind c json choices other p1 p2 p3 p4 p5 p6 p7).stalled
